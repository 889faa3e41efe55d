-- What a record tells of, by the names that Q.703 has for it.
use Rattle.std.specs.Prelude.{ℕ, List, ◌++◌, codes, if◌then◌else◌, nat_lt, ◌==◌, ◌||◌}
use Rattle.records.specs.declared.RecordKind.{RecordKind}
use Rattle.records.specs.declared.RecordKind.TheVariants.{HandedOver, Dropped, Lost, CheckWrong, NotWhole, Short, Long, Abort, Tick}

-- "5 octets is fill-in, 6 or 7 link status, more is message"; a signal unit with fewer octets is none of them
abbrev pub unit_name : ℕ → List ℕ
unit_name length =
    if nat_lt length 5 then codes "SU" else (if length == 5 then codes "FISU" else (if length == 6 || length == 7 then codes "LSSU" else codes "MSU"))

-- the kinds in their order, 0 to 8; of a good unit also which it is
abbrev pub kind_text : RecordKind → ℕ → List ℕ
kind_text HandedOver length = unit_name length ++ codes " handed over"
kind_text Dropped length = unit_name length ++ codes " dropped"
kind_text Lost length = unit_name length ++ codes " lost"
kind_text CheckWrong length = codes "check bits wrong"
kind_text NotWhole length = codes "not whole octets"
kind_text Short length = codes "short"
kind_text Long length = codes "long"
kind_text Abort length = codes "abort"
kind_text Tick length = codes "octet counting"
