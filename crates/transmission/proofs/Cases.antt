-- P14 through send, and an example.
use mathlib.Core.Path.{refl}
use mathlib.Core.List.{◌∷◌, ◌++◌}
use Rattle.board.specs.Rows.{row_of, table}
use Rattle.bits.specs.Octets.{bits_of, line_bits, octet_of, packed, whole_octets, bits_after}
use Rattle.fcs.specs.Check.{check_of, check_octets}
use Rattle.sending.specs.Packing.{octets_out, still_waiting}
use Rattle.sending.specs.Stuffing.{flag, stuffed, unit_bits, unit_line}
use Rattle.board.specs.Link.{clear_area}
use Rattle.board.specs.Malformed.{no_ones, zero_past, in_range, line_out, counter_out, monitor_out, transmitter_out, open_malformed, malformed}
use Rattle.link.specs.Refusals.{first}
use Rattle.output.specs.Refusals.{send_number, fill_number}
use Rattle.output.specs.Output.{unit_out, fill_out, send_answer, fill_answer}
use Rattle.transmission.specs.Transmission.{send, link_after, octets_sent}
use Rattle.transmission.specs.Promises.{P14, ThreeSent}
use Rattle.transmission.proofs.Calls.{accepted, one-call}

pub p14 : P14
unfolding unit_out unit_line unit_bits line_bits bits_of
p14 l content output z =
    record {
      rest = stuffed 0 (line_bits (content ++ check_octets (0x1f ∷ content))) ++ flag;
      is = one-call l (send (0x1f ∷ content) output) (accepted l (send (0x1f ∷ content) output) tt z);
    }

pub three-sent : ThreeSent
unfolding row_of table octets_sent link_after send_answer fill_answer send_number fill_number first malformed open_malformed transmitter_out monitor_out counter_out line_out in_range zero_past no_ones clear_area unit_out fill_out unit_line unit_bits line_bits bits_of octet_of packed whole_octets bits_after octets_out still_waiting check_of check_octets
three-sent = (refl, refl, refl)
