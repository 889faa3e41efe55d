-- N's counter is at most N.
use Prim.Native.Nat.{ℕ, ◌-◌, ◌≤◌}
use mathlib.Core.Path.{◌≡◌, refl}
use mathlib.Core.Bool.{Bool, cond}
use mathlib.Core.List.{List, [], ◌∷◌}
use native.Mathlib.Omega.{arith}
use lib.Dec.{eqb}
use Rattle.bits.specs.Octets.{whole_octets}
use Rattle.framing.specs.Delimitation.{closed, abort, long}
use Rattle.board.specs.declared.Settings.{Settings}
use Rattle.std.proofs.lemmas.Bool.Decides.{nat_tests}
use Rattle.units.specs.Indications.{Indication, found, octet_end}
use Rattle.units.specs.Units.{UnitMemory, Effect, closed_unit, octet_effect, effect_of, next_unit_memory, unit_memory_after}
use Rattle.units.proofs.UnitStates.{each-closed, each-errored, each-good}

-- ---- N's counter: only the end of an octet moves it
abbrev left : UnitMemory → ℕ
left o = o.units.counting.left

abbrev Left : ℕ → Effect → Type 0
Left n x = left x.unit_memory ≡ n

module _ (s : Settings) (o : UnitMemory) where
  left-closed : (u : List Bool) → Left (left o) (closed_unit s o u)
  left-closed u =
      let os = whole_octets u in
      each-closed (Left (left o)) s o u refl (λ status kind. each-errored (Left (left o)) s o os status kind refl refl)
      (each-good (Left (left o)) s o os (λ m. refl) (λ m. refl) (λ m. refl))

  -- it reloads to N, or is one less
  left_end : left o ≤ s.n → cond (eqb (left o) 1) s.n (left o - 1) ≤ s.n
  left_end h = grind (arith, nat_tests)

  left_one : (m : Indication) → left o ≤ s.n → left (next_unit_memory s o m) ≤ s.n
  unfolding effect_of octet_effect
  left_one (found (closed u)) h = omega (arith, left-closed u)
  left_one (found abort) h = h
  left_one (found long) h = h
  left_one octet_end h = left_end h

pub left-most : (s : Settings) (ms : List Indication) (o : UnitMemory) → left o ≤ s.n → left (unit_memory_after s o ms) ≤ s.n
unfolding unit_memory_after
left-most s [] o h = h
left-most s (m ∷ ms) o h = left-most s ms (next_unit_memory s o m) (left_one s o m h)
