-- A line in two parts: the same board, the same happenings and the same records as in one.
use Prim.Native.Nat.{ℕ, ◌+◌, ◌*◌, ◌≤◌}
use mathlib.Core.Path.{◌≡◌, ap, ◌∙◌}
use mathlib.Core.List.{List, [], ◌∷◌, ◌++◌}
use native.Mathlib.Omega.{arith}
use lib.ListN.{length, length-append}
use Rattle.board.specs.Limits.{monitor_limits}
use Rattle.records.specs.Record.{supervision_after, records_of}
use Rattle.records.proofs.Supervising.{supervision-append, records-append, records-length}
use Rattle.framing.specs.Delimitation.{Receiver}
use Rattle.board.specs.declared.Settings.{Settings}
use Rattle.units.specs.Indications.{octet_receiver, octet_indications, line_receiver, line_indications}
use Rattle.units.specs.Units.{UnitMemory, unit_memory_after, happenings}
use Rattle.units.proofs.UnitStates.{unit-memory-append, happenings-append, sum-after}
use Rattle.reception.specs.Line.{board_after, line_happenings, line_records}
use Rattle.reception.specs.Promises.{BoardCut, HappeningsCut, RecordsCut, RecordsSize, ThreeEach, SumOverLine}
use Rattle.reception.proofs.Octets.{happenings-five, three}
use Rattle.reception.proofs.Lines.{receiver-append, indications-of-both}

pub happenings-cut : HappeningsCut
unfolding line_happenings board_after
happenings-cut s b xs ys =
    ap (happenings s b.unit_memory) (indications-of-both s.m xs ys b.receiver)
    ∙ happenings-append s (line_indications s.m b.receiver xs) (line_indications s.m (line_receiver s.m b.receiver xs) ys) b.unit_memory

pub board-cut : BoardCut
unfolding board_after
board-cut s b xs ys =
    let later = line_indications s.m (line_receiver s.m b.receiver xs) ys in
    let r = receiver-append s.m xs ys b.receiver in
    let o : unit_memory_after s b.unit_memory (line_indications s.m b.receiver (xs ++ ys)) ≡ unit_memory_after s (unit_memory_after s b.unit_memory (line_indications s.m b.receiver xs)) later =
    ap (unit_memory_after s b.unit_memory) (indications-of-both s.m xs ys b.receiver) ∙ unit-memory-append s (line_indications s.m b.receiver xs) later b.unit_memory in
    let w : supervision_after (monitor_limits s) b.supervision (line_happenings s b (xs ++ ys))
    ≡ supervision_after (monitor_limits s) (supervision_after (monitor_limits s) b.supervision (line_happenings s b xs)) (line_happenings s (board_after s b xs) ys) =
    ap (supervision_after (monitor_limits s) b.supervision) (happenings-cut s b xs ys)
    ∙ supervision-append (monitor_limits s) b.supervision (line_happenings s b xs) (line_happenings s (board_after s b xs) ys) in
    λ i. record { receiver = r i; unit_memory = o i; supervision = w i }

pub records-cut : RecordsCut
unfolding line_records board_after
records-cut s b xs ys =
    ap (records_of (monitor_limits s) b.supervision) (happenings-cut s b xs ys)
    ∙ records-append (monitor_limits s) b.supervision (line_happenings s b xs) (line_happenings s (board_after s b xs) ys)

pub records-size : RecordsSize
unfolding line_records line_happenings
records-size s b line =
    records-length (monitor_limits s) b.supervision (happenings s b.unit_memory (line_indications s.m b.receiver line))
    (happenings-five s (line_indications s.m b.receiver line) b.unit_memory)

three-each-of : (s : Settings) (line : List ℕ) (st : Receiver) (o : UnitMemory) → 7 ≤ s.m → length (happenings s o (line_indications s.m st line)) ≤ 3 * length line
unfolding line_indications happenings
three-each-of s [] st o h = omega arith
three-each-of s (x ∷ line) st o h =
    let ms = octet_indications s.m st x in
    let later = line_indications s.m (octet_receiver s.m st x) line in
    let a : length (happenings s o (ms ++ later)) ≡ length (happenings s o ms) + length (happenings s (unit_memory_after s o ms) later) =
    ap length (happenings-append s ms later o) ∙ length-append (happenings s o ms) (happenings s (unit_memory_after s o ms) later) in
    omega (arith, three s s.m st x o h, three-each-of s line (octet_receiver s.m st x) (unit_memory_after s o ms) h)

pub three-each : ThreeEach
unfolding line_happenings
three-each s b line h = three-each-of s line b.receiver b.unit_memory h

pub sum-over-line : SumOverLine
unfolding board_after
sum-over-line s b line e = sum-after s (line_indications s.m b.receiver line) b.unit_memory e
