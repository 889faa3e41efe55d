-- "Kinds: 0 handed over, 1 dropped, 2 good but lost, 3 check wrong, 4 not whole octets, 5 short, 6 long, 7 abort, 8 octet tick while counting."
use Rattle.std.specs.Prelude.{ℕ}
use Rattle.records.specs.declared.RecordKind.{RecordKind}
use Rattle.records.specs.declared.RecordKind.TheVariants.{HandedOver, Dropped, Lost, CheckWrong, NotWhole, Short, Long, Abort, Tick}

abbrev pub kind_number : RecordKind → ℕ
kind_number HandedOver = 0
kind_number Dropped = 1
kind_number Lost = 2
kind_number CheckWrong = 3
kind_number NotWhole = 4
kind_number Short = 5
kind_number Long = 6
kind_number Abort = 7
kind_number Tick = 8
