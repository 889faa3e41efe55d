-- A dropped unit had its like handed over earlier in the same booking. The proofs are in proofs/Dropped.antt.
use Rattle.std.specs.Prelude.{ℕ, ◌≡◌, Bool, true, false, List, ◌∷◌, ◌++◌, length, get_or}
use Rattle.bits.specs.Format.{basic}
use Rattle.filter.specs.declared.Fate.{Fate}
use Rattle.filter.specs.declared.Fate.TheVariants.{HandedOver, Dropped, Lost}
use Rattle.filter.specs.Unit.{kind_of, alike}
use Rattle.filter.specs.Memory.{settled}
use Rattle.filter.specs.History.{FilterInput, good, command-4, memory_after}
use Rattle.filter.specs.Predecessors.{is_message}
use Rattle.board.specs.declared.Settings.{Settings}
use Rattle.calls.specs.Call.{Call, link_after}
use Rattle.bookings.specs.Booking.{booking_after}
use Rattle.bookings.specs.History.{units_of, fates_told}

-- the fate of a unit that comes after these inputs, oldest first, with its slot empty or not
abbrev pub fate_after : Settings → List FilterInput → List ℕ → Bool → Fate
fate_after s before u free = (settled basic s.filter s.mask (memory_after basic s.filter s.mask before) u free).fate

-- an input after these is a unit, no message and not lost: it is no command 4 either
abbrev pub Keeps : Settings → List FilterInput → FilterInput → Type 0
Keeps s before (good v free) = (is_message (kind_of basic v) ≡ false) × ¬ (fate_after s before v free ≡ Lost)
Keeps s before command-4 = ⊥

-- "a repeat is dropped only if its like was handed over first": an earlier unit like u was handed over, and between them there was no message, no lost
-- good unit and no command 4
pub record HadItsLike (s : Settings) (before : List FilterInput) (u : List ℕ) : Type 0 where
  pub older : List FilterInput
  pub like : List ℕ
  pub between : List FilterInput
  pub split : before ≡ older ++ (good like true ∷ between)
  pub over : fate_after s older like true ≡ HandedOver
  pub is-like : alike s.mask like u ≡ true
  pub kept : (a : List FilterInput) (x : FilterInput) (b : List FilterInput) → between ≡ a ++ (x ∷ b) → Keeps s (older ++ (good like true ∷ a)) x

-- Unit k of those that went to the filter in the booking that is open after the calls, counted from 0: it stands among them with its octets, and had its like handed
-- over, as the record of that one tells.
pub record DroppedUnit (cs : List Call) (k : ℕ) : Type 0 where
  pub before : List FilterInput
  pub unit : List ℕ
  pub free : Bool
  pub after : List FilterInput
  pub is : (booking_after cs).inputs ≡ before ++ (good unit free ∷ after)
  pub place : length (units_of before) ≡ k
  pub filter-on : (link_after cs).settings.filter ≡ true
  pub like : HadItsLike (link_after cs).settings before unit
  pub told : get_or (fates_told (booking_after cs).happened) (length (units_of like.older)) Lost ≡ HandedOver

-- In every booking of every list of calls, each unit whose record says dropped.
abbrev pub DroppedInBooking : Type 0
DroppedInBooking = (cs : List Call) (k : ℕ) → get_or (fates_told (booking_after cs).happened) k HandedOver ≡ Dropped → DroppedUnit cs k
