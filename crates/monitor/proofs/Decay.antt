-- Decay points: the event number goes round at each, and how many lie among events in a row.
use mathlib.Core.Path.{◌≡◌, sym, ap, ◌∙◌}
use mathlib.Core.Bool.{Bool}
use mathlib.Core.List.{List}
use Prim.Native.Nat.{ℕ, zero, suc, ◌+◌, ◌*◌, ◌%◌}
use native.Mathlib.Nat.{add-suc, suc-add, add-zero, suc-mod, mod_self, mod-zero, mod-lt, mod-eq_of_lt}
use native.Mathlib.Decide.{ℕ_discrete}
use native.Mathlib.Omega.{arith}
use borrow.Author.Tests.{ne_eqb}
use Rattle.bits.specs.Octets.{worth}
use Rattle.monitor.specs.Stretch.{decay_point, failures, total}

-- the number of an event, counted from the last decay point: 0 again at a decay point
pub wraps : (n D : ℕ) → suc (n % D) ≡ D → suc n % D ≡ 0
wraps n D q = suc-mod n D ∙ rw q (mod_self D)

-- and one more at any other event
pub rises : (n D : ℕ) → ¬ (suc (n % D) ≡ D) → suc n % D ≡ suc (n % D)
rises n zero q = mod-zero (suc n) ∙ ap suc (sym (mod-zero n))
rises n (suc d) q = suc-mod n (suc d) ∙ mod-eq_of_lt (omega (arith, mod-lt n {m = suc d} (omega arith)))

-- k events in a row from event i + 1 on hold k / D decay points, rounded by where they begin and end
pub decay-total : (D : ℕ) (h : List Bool) (i k : ℕ) → D * total (failures D).down h (suc i) k + (i + k) % D ≡ i % D + k
unfolding total
decay-total D h i zero = let z = ap (λ (n : ℕ). n % D) (add-zero i) in omega arith
decay-total D h i (suc k) =
    let z = ap (λ (n : ℕ). n % D) (add-suc i k) in
    rw suc-add (go z (decay-total D h i k) (ℕ_discrete (suc ((i + k) % D)) D))
  where
    s : ℕ
    s = total (failures D).down h (suc i) k

    go : (i + suc k) % D ≡ suc (i + k) % D → D * s + (i + k) % D ≡ i % D + k → Dec (suc ((i + k) % D) ≡ D)
        → D * (s + worth (decay_point D (suc (i + k)))) + (i + suc k) % D ≡ i % D + suc k
    go z ih (yes q) = let v = wraps (i + k) D q in rw (z, v) (omega arith)
    go z ih (no q) = let v = rises (i + k) D q in rw (z, ne_eqb (suc (i + k) % D) 0 (omega arith), v) (omega arith)
