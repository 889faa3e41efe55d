-- One record after the other: lines, and totals.
use Rattle.std.specs.Prelude.{ℕ, Bool, ◌&&◌, List, take, drop, nat_eq, Option, None, Some, is_some, if◌then◌else◌}
use lib.Pointwise.{pointwise}
use Rattle.recordview_lines.specs.declared.lines.Run.{Run}
use Rattle.recordview_lines.specs.declared.viewer.Viewer.{Viewer}
use Rattle.recordview_lines.specs.declared.viewer.Taken.{Taken}
use Rattle.recordview_lines.specs.Reading.{record_in}
use Rattle.recordview_lines.specs.Totals.{no_totals, more, with_record}

abbrev pub same : List ℕ → List ℕ → Bool
same = pointwise nat_eq

-- the same but for octets 4 to 7, where a record has its two counts
abbrev pub is_same_but_counts : List ℕ → List ℕ → Bool
is_same_but_counts a b = same (take 4 a) (take 4 b) && same (drop 8 a) (drop 8 b)

-- they share a line: two records that are the same but for the two counts, or the same octets that are no record
unfoldable pub is_alike : List ℕ → List ℕ → Bool
is_alike a b = if is_some (record_in a) then is_same_but_counts a b else same a b

-- the line that a record goes to, and the line that it ends
abbrev pub run_after : Option Run → List ℕ → Run
run_after None octets = record { octets = octets; times = 1 }
run_after (Some r) octets =
    if is_alike r.octets octets then record { octets = octets; times = more r.times } else record { octets = octets; times = 1 }

abbrev pub run_ended : Option Run → List ℕ → Option Run
run_ended None octets = None
run_ended (Some r) octets = if is_alike r.octets octets then None else Some r

abbrev pub nothing_seen : Viewer
nothing_seen = record { run = None; totals = no_totals }

-- one record more
unfoldable pub taken : Viewer → List ℕ → Taken
taken v octets =
    record {
      viewer = record { run = Some (run_after v.run octets); totals = with_record v.totals (record_in octets) };
      ended = run_ended v.run octets;
    }
