-- "Sixteen octets each, no header, low octet first".
use Rattle.std.specs.Prelude.{ℕ, ◌/◌, ◌%◌, Bool, List, [], ◌∷◌, ◌++◌}
use Rattle.bits.specs.Octets.{worth}
use Rattle.bits.specs.Machine.{run, outs}
use Rattle.monitor.specs.declared.Limits.{Limits}
use Rattle.records.specs.declared.Happening.{Happening}
use Rattle.board.specs.declared.Supervision.{Supervision}
use Rattle.records.specs.Kinds.{kind_number}
use Rattle.records.specs.Happening.{noted}

-- a number of sixteen bits as two octets
abbrev pub low-high : ℕ → List ℕ
low-high n = n % 256 ∷ n / 256 ∷ []

-- "0 kind; 1 one if lost for want of a slot; 2-3 length; 4-5 monitor count after it; 6-7 good count; 8-12 first five octets, zero
-- filled; 13 one if this event raised SUER or AERM; 14-15 zero"
unfoldable pub record_of : Happening → ℕ → Bool → List ℕ
record_of h count raised =
    (kind_number h.kind ∷ worth h.lost ∷ [])
    ++ (low-high h.length ++ (low-high count ++ (low-high h.good ++ (h.first ++ (worth raised ∷ 0 ∷ 0 ∷ [])))))

-- monitor and event bits after a happening, and its record
abbrev pub supervised : Limits → Supervision → Happening → Supervision
supervised l w h = (noted l w h).supervision

abbrev pub recorded : Limits → Supervision → Happening → List ℕ
recorded l w h = record_of h (noted l w h).supervision.monitor.count (noted l w h).raised

-- monitor and event bits after happenings, and their records
unfoldable pub supervision_after : Limits → Supervision → List Happening → Supervision
supervision_after l = run (supervised l)

unfoldable pub records_of : Limits → Supervision → List Happening → List ℕ
records_of l = outs (supervised l) (recorded l)
