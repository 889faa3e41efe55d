-- What is promised of line octets. The proofs are in proofs/Cutting.antt.
use Rattle.std.specs.Prelude.{ℕ, ◌*◌, ◌≤◌, ◌≡◌, List, ◌++◌, length}
use Rattle.board.specs.Limits.{record_octets}
use Rattle.board.specs.declared.Settings.{Settings}
use Rattle.units.specs.Promises.{Sums}
use Rattle.reception.specs.Line.{Board, board_after, line_happenings, line_records}

-- A line that comes in two parts leaves the same board as the whole,
abbrev pub BoardCut : Type 0
BoardCut = (s : Settings) (b : Board) (xs ys : List ℕ) → board_after s b (xs ++ ys) ≡ board_after s (board_after s b xs) ys

-- brings the same things in order,
abbrev pub HappeningsCut : Type 0
HappeningsCut =
    (s : Settings) (b : Board) (xs ys : List ℕ) → line_happenings s b (xs ++ ys) ≡ line_happenings s b xs ++ line_happenings s (board_after s b xs) ys

-- and the same records in order.
abbrev pub RecordsCut : Type 0
RecordsCut = (s : Settings) (b : Board) (xs ys : List ℕ) → line_records s b (xs ++ ys) ≡ line_records s b xs ++ line_records s (board_after s b xs) ys

-- Sixteen octets come for each thing that happened,
abbrev pub RecordsSize : Type 0
RecordsSize = (s : Settings) (b : Board) (line : List ℕ) → length (line_records s b line) ≡ record_octets * length (line_happenings s b line)

-- "At most three records come from one line octet",
abbrev pub ThreeEach : Type 0
ThreeEach = (s : Settings) (b : Board) (line : List ℕ) → 7 ≤ s.m → length (line_happenings s b line) ≤ 3 * length line

-- and the good count stays the sum of units handed over, dropped and lost.
abbrev pub SumOverLine : Type 0
SumOverLine = (s : Settings) (b : Board) (line : List ℕ) → Sums b.unit_memory.units.counts → Sums (board_after s b line).unit_memory.units.counts
