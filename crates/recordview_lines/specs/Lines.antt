-- The line of a record.
use Rattle.std.specs.Prelude.{ℕ, Bool, true, false, List, [], ◌++◌, length, take, codes, min, Option, None, Some, if◌then◌else◌, nat_le, ◌==◌}
use Rattle.std.specs.Fmt.{decimal}
use Rattle.text.specs.Hex.{hex_text}
use Rattle.records.specs.declared.RecordKind.{RecordKind}
use Rattle.records.specs.declared.RecordKind.TheVariants.{HandedOver, Dropped, Lost, CheckWrong, NotWhole, Short, Long, Abort, Tick}
use Rattle.recordview_lines.specs.declared.records_read.Record.{Record}
use Rattle.recordview_lines.specs.declared.lines.Run.{Run}
use Rattle.recordview_lines.specs.Names.{kind_text}
use Rattle.recordview_lines.specs.Header.{header_in, header_text}
use Rattle.recordview_lines.specs.Reading.{record_in}

-- words that stand where something holds
abbrev pub mark_text : Bool → List ℕ → List ℕ
mark_text true words = words
mark_text false words = []

-- "Kinds 6 to 8 have length and octets zero": long, abort and tick tell of no unit
abbrev pub has_unit : RecordKind → Bool
has_unit HandedOver = true
has_unit Dropped = true
has_unit Lost = true
has_unit CheckWrong = true
has_unit NotWhole = true
has_unit Short = true
has_unit Long = false
has_unit Abort = false
has_unit Tick = false

-- a unit's length, and those of its first five octets that it has
abbrev pub unit_text : Record → List ℕ
unit_text r =
    if has_unit r.kind then codes "  " ++ (decimal r.length ++ (codes " octets " ++ hex_text (take (min r.length 5) r.first))) else []

-- kind, whether there was no slot, length and first octets, header, the monitor's count, the good count, and whether it raised an alarm
unfoldable pub record_text : Record → List ℕ
record_text r =
    kind_text r.kind r.length ++ (mark_text r.lost (codes "  no slot") ++ (unit_text r ++ (header_text (header_in r)
    ++ (codes "  monitor " ++ (decimal r.count ++ (codes "  good " ++ (decimal r.good ++ mark_text r.alarm (codes "  ALARM"))))))))

abbrev pub shown_text : List ℕ → Option Record → List ℕ
shown_text octets None = codes "no record  " ++ hex_text octets
shown_text octets (Some r) = record_text r

-- sixteen octets: the record that they are, or the octets where they are none
unfoldable pub octets_text : List ℕ → List ℕ
octets_text octets = shown_text octets (record_in octets)

-- how often, where it is more than once
abbrev pub times_text : ℕ → List ℕ
times_text times = if nat_le times 1 then [] else codes "  x " ++ decimal times

-- a line
unfoldable pub run_text : Run → List ℕ
run_text r = octets_text r.octets ++ (times_text r.times ++ codes "\n")

-- fewer than sixteen octets at the end
unfoldable pub torn_text : List ℕ → List ℕ
torn_text octets =
    if length octets == 0 then [] else codes "torn end  " ++ (decimal (length octets) ++ (codes " octets " ++ (hex_text octets ++ codes "\n")))
