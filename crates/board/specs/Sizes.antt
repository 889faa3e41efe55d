-- The limits of a link as one value, which a host can ask for.
use Rattle.bits.specs.Format.{Format, least_longest, most_longest, least_content, most_content}
use Rattle.board.specs.declared.limits.Sizes.{Sizes}
use Rattle.board.specs.Limits.{most_slots, most_count, most_line, record_octets, record_room}

unfoldable pub sizes_of : Format → Sizes
sizes_of F =
    record {
      slot = F.slot;
      slots = record { least = 1; most = most_slots };
      longest = record { least = least_longest F; most = most_longest F };
      counts = record { least = 1; most = most_count };
      line = most_line;
      «record» = record_octets;
      records = record_room;
      output = F.output;
      content = record { least = least_content F; most = most_content F };
    }
