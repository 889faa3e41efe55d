-- What is promised of the unit state. The proofs are in proofs/UnitStates.antt.
use Rattle.std.specs.Prelude.{◌≡◌, ℕ, ◌+◌, ◌*◌, ◌%◌, ◌≤◌, List, ◌++◌, length}
use Rattle.bits.specs.Format.{basic, most_longest}
use Rattle.framing.specs.Delimitation.{Finding, closed, abort, long}
use Rattle.board.specs.declared.Settings.{Settings}
use Rattle.board.specs.declared.Counts.{Counts}
use Rattle.records.specs.Promises.{FirstFive}
use Rattle.units.specs.Indications.{Indication, found, octet_end}
use Rattle.units.specs.Units.{UnitMemory, next_unit_memory, happens, unit_memory_after, happenings}
use Rattle.units.specs.InnerFit.{Fits}

-- the bits of a closed unit, of which 2,224 is the most that any M allows
abbrev pub bits_in : Indication → ℕ
bits_in (found (closed u)) = length u
bits_in (found abort) = 0
bits_in (found long) = 0
bits_in octet_end = 0

abbrev pub AtMostLongest : Indication → Type 0
AtMostLongest m = bits_in m ≤ 8 * most_longest basic

-- The unit state and the lent memory stay fit for each other.
abbrev pub FitKept : Type 0
FitKept =
    (s : Settings) (o : UnitMemory) (m : Indication) → AtMostLongest m → Fits s o.units o.pool o.descriptors
    → Fits s (next_unit_memory s o m).units (next_unit_memory s o m).pool (next_unit_memory s o m).descriptors

-- A finding is one happening, and the end of an octet one at most.
abbrev pub OneFound : Type 0
OneFound = (s : Settings) (o : UnitMemory) (f : Finding) → length (happens s o (found f)) ≡ 1

abbrev pub OneAtMost : Type 0
OneAtMost = (s : Settings) (o : UnitMemory) (m : Indication) → length (happens s o m) ≤ 1

-- Each happening shows five octets.
abbrev pub FirstFives : Type 0
FirstFives = (s : Settings) (o : UnitMemory) (m : Indication) → FirstFive (happens s o m)

-- "The good count is their sum modulo 65,536": so it stays, over one indication and over any indications.
abbrev pub Sums : Counts → Type 0
Sums c = c.good % 65536 ≡ (c.over + c.dropped + c.lost) % 65536

abbrev pub SumKept : Type 0
SumKept = (s : Settings) (o : UnitMemory) (m : Indication) → Sums o.units.counts → Sums (next_unit_memory s o m).units.counts

abbrev pub SumAfter : Type 0
SumAfter = (s : Settings) (ms : List Indication) (o : UnitMemory) → Sums o.units.counts → Sums (unit_memory_after s o ms).units.counts

-- Indications in two parts are served as one.
abbrev pub UnitMemoryAppend : Type 0
UnitMemoryAppend = (s : Settings) (xs ys : List Indication) (o : UnitMemory) → unit_memory_after s o (xs ++ ys) ≡ unit_memory_after s (unit_memory_after s o xs) ys

abbrev pub HappeningsAppend : Type 0
HappeningsAppend =
    (s : Settings) (xs ys : List Indication) (o : UnitMemory) → happenings s o (xs ++ ys) ≡ happenings s o xs ++ happenings s (unit_memory_after s o xs) ys
