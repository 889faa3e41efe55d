-- What is promised of the repeat filter. The proofs are in proofs/ByPredecessors.antt, proofs/Histories.antt and proofs/Cases.antt.
-- An input is a good unit, with whether its slot was free, or a command 4; a history is the inputs since opening.
use Rattle.std.specs.Prelude.{ℕ, ◌≡◌, ◌↔◌, Bool, true, false, ◌&&◌, List, [], ◌∷◌, reverse}
use Rattle.bits.specs.Format.{Format, basic}
use Rattle.filter.specs.declared.Fate.{Fate}
use Rattle.filter.specs.declared.Fate.TheVariants.{HandedOver, Dropped, Lost}
use Rattle.filter.specs.declared.Memory.{Memory}
use Rattle.filter.specs.Memory.{empty_memory, settled}
use Rattle.filter.specs.History.{FilterInput, good, memory_after, fates}
use Rattle.filter.specs.Predecessors.{dropped_after, HadItsLike}

-- ---- The filter by its memory and by the predecessors
-- what the filter with its memory makes of a good unit u that comes after a history, which has its last input first
abbrev pub fate_after : Format → Bool → List ℕ → List FilterInput → List ℕ → Bool → Fate
fate_after F on mask hs u free = (settled F on mask (memory_after F on mask (reverse hs)) u free).fate

-- A unit is dropped exactly if the filter is on and the units directly before it are like it: one for a fill-in unit, two for a link
-- status unit, none of them lost.
abbrev pub DroppedExactly : Type 0
DroppedExactly =
    (F : Format) (on : Bool) (mask : List ℕ) (hs : List FilterInput) (u : List ℕ) (free : Bool)
    → (fate_after F on mask hs u free ≡ Dropped) ↔ (on && dropped_after F mask hs u ≡ true)

-- Each dropped unit has an earlier one like it that found its slot free, with no message, lost unit or command 4 since,
abbrev pub DroppedHadItsLike : Type 0
DroppedHadItsLike = (F : Format) (mask : List ℕ) (hs : List FilterInput) (u : List ℕ) → dropped_after F mask hs u ≡ true → HadItsLike F mask hs u

-- and that one was handed over.
abbrev pub LikeHandedOver : Type 0
LikeHandedOver =
    (F : Format) (mask : List ℕ) (hs : List FilterInput) (u : List ℕ) (h : HadItsLike F mask hs u)
    → fate_after F true mask h.older h.like true ≡ HandedOver

-- ---- The filter off
-- Nothing is dropped, whatever the memory holds.
abbrev pub OffDropsNothing : Type 0
OffDropsNothing = (F : Format) (mask : List ℕ) (m : Memory) (u : List ℕ) (free : Bool) → ¬ ((settled F false mask m u free).fate ≡ Dropped)

-- "With the filter off the memory stays empty."
abbrev pub OffStaysEmpty : Type 0
OffStaysEmpty = (F : Format) (mask : List ℕ) (hs : List FilterInput) → memory_after F false mask hs ≡ empty_memory F

-- ---- Proved cases, on whole units with their check octets
-- the mask all ones
abbrev pub all_ones : List ℕ
all_ones = 255 ∷ 255 ∷ 255 ∷ 255 ∷ 255 ∷ []

-- a fill-in unit and a link status unit: numbers, length indicator, status, check octets
abbrev pub fill_in_unit : List ℕ
fill_in_unit = 0x80 ∷ 0x80 ∷ 0 ∷ 0xec ∷ 0x46 ∷ []

abbrev pub status_unit : List ℕ
status_unit = 0x80 ∷ 0x80 ∷ 1 ∷ 0 ∷ 0x84 ∷ 0xc4 ∷ []

-- "P12 equal fill-in units: over, dropped, dropped; equal status units: over, over, dropped."
abbrev pub P12FillIn : Type 0
P12FillIn = fates basic true all_ones (good fill_in_unit true ∷ good fill_in_unit true ∷ good fill_in_unit true ∷ []) ≡ HandedOver ∷ Dropped ∷ Dropped ∷ []

abbrev pub P12Status : Type 0
P12Status = fates basic true all_ones (good status_unit true ∷ good status_unit true ∷ good status_unit true ∷ []) ≡ HandedOver ∷ HandedOver ∷ Dropped ∷ []

-- "P13 fill-in lost, slot freed, same again twice: lost, over, dropped."
abbrev pub P13 : Type 0
P13 = fates basic true all_ones (good fill_in_unit false ∷ good fill_in_unit true ∷ good fill_in_unit true ∷ []) ≡ Lost ∷ HandedOver ∷ Dropped ∷ []
