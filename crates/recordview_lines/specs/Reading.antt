-- What a record of sixteen octets says.
use Rattle.std.specs.Prelude.{ℕ, ◌+◌, ◌*◌, Bool, true, false, List, [], ◌∷◌, slice_index, Option, None, Some, if◌then◌else◌, ◌==◌}
use Rattle.records.specs.declared.Happening.{Happening}
use Rattle.records.specs.declared.RecordKind.{RecordKind}
use Rattle.records.specs.declared.RecordKind.TheVariants.{HandedOver, Dropped, Lost, CheckWrong, NotWhole, Short, Long, Abort, Tick}
use Rattle.records.specs.Record.{record_of}
use Rattle.recordview_lines.specs.declared.records_read.Record.{Record}

-- what happened, as far as a record tells
abbrev pub happening_of : Record → Happening
happening_of r = record { kind = r.kind; lost = r.lost; length = r.length; first = r.first; good = r.good; event = false; errored = false; bits = 0 }

-- the octets that receive writes of it
abbrev pub octets_of : Record → List ℕ
octets_of r = record_of (happening_of r) r.count r.alarm

-- "low octet first"
abbrev pub word : ℕ → ℕ → ℕ
word low high = high * 256 + low

-- the kind that has this number
abbrev pub kind_in : ℕ → Option RecordKind
kind_in n =
    if n == 0 then Some HandedOver else (if n == 1 then Some Dropped else (if n == 2 then Some Lost else (if n == 3 then Some CheckWrong else (if n == 4 then Some NotWhole
    else (if n == 5 then Some Short else (if n == 6 then Some Long else (if n == 7 then Some Abort else (if n == 8 then Some Tick else None))))))))

-- "1 one if lost for want of a slot", "13 one if this event raised SUER or AERM": else zero
abbrev pub switch_in : ℕ → Option Bool
switch_in n = if n == 0 then Some false else (if n == 1 then Some true else None)

abbrev pub record_from : List ℕ → Option RecordKind → Option Bool → Option Bool → Option Record
record_from octets (Some kind) (Some lost) (Some alarm) =
    Some
    (record {
      kind = kind;
      lost = lost;
      length = word (slice_index octets 2) (slice_index octets 3);
      count = word (slice_index octets 4) (slice_index octets 5);
      good = word (slice_index octets 6) (slice_index octets 7);
      first = slice_index octets 8 ∷ slice_index octets 9 ∷ slice_index octets 10 ∷ slice_index octets 11 ∷ slice_index octets 12 ∷ [];
      alarm = alarm;
    })
record_from octets _ _ _ = None

-- the record that sixteen octets are, if they are one: a kind, switches where switches stand, and nothing in the last two octets
unfoldable pub record_in : List ℕ → Option Record
record_in octets =
    if word (slice_index octets 14) (slice_index octets 15) == 0
    then record_from octets (kind_in (slice_index octets 0)) (switch_in (slice_index octets 1)) (switch_in (slice_index octets 13)) else None
