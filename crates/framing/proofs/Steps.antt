-- What one bit does to a receiver.
use Prim.Native.Nat.{ℕ, ◌+◌, ◌*◌, ◌≤◌, ◌<◌, min}
use mathlib.Core.Path.{◌≡◌, refl, ap, ◌∙◌}
use mathlib.Core.Bool.{Bool, true, false}
use mathlib.Core.List.{List, [], ◌∷◌, ◌++◌}
use native.Mathlib.Omega.{arith}
use borrow.Author.Tests.{le-ltb, ne_eqb}
use lib.Dec.{eqb}
use lib.ListN.{length}
use Rattle.framing.specs.Delimitation.{Receiver, Finding, inside, hunts, gather, step_bit, receiver_after, findings}

-- a bit, and those after it
pub bit-then : (M : ℕ) (s s' s'' : Receiver) (b : Bool) (bs : List Bool) (fs fs' : List Finding) → step_bit M s b ≡ (s', fs) → receiver_after M s' bs ≡ s'' → findings M s' bs ≡ fs'
    → (receiver_after M s (b ∷ bs) ≡ s'') × (findings M s (b ∷ bs) ≡ fs ++ fs')
bit-then M s s' s'' b bs fs fs' e p q = (
  ap (λ (st : Receiver × List Finding). receiver_after M st.0 bs) e ∙ p,
  ap (λ (st : Receiver × List Finding). st.1 ++ findings M st.0 bs) e ∙ ap (λ (l : List Finding). fs ++ l) q,
)

-- inside a unit with room for one bit more
pub gathers : (M r r' : ℕ) (b : Bool) (g : List Bool) → length g < 8 * M + 7 → gather M (inside r g) r' b ≡ (inside r' (g ++ (b ∷ [])), [])
gathers M r r' b g k = rw (le-ltb (8 * M + 7) (length g + 1) (omega arith))

pub one-read : (M ones : ℕ) (g : List Bool) → ones ≤ 5 → length g < 8 * M + 7 → step_bit M (inside ones g) true ≡ (inside (ones + 1) (g ++ (true ∷ [])), [])
unfolding step_bit
one-read M ones g h k =
    let m : min (ones + 1) 7 ≡ ones + 1 = omega arith in
    rw (ne_eqb ones 6 (omega arith), m) (gathers M ones (ones + 1) true g k)

pub zero-read : (M ones : ℕ) (g : List Bool) → ones ≤ 4 → length g < 8 * M + 7 → step_bit M (inside ones g) false ≡ (inside 0 (g ++ (false ∷ [])), [])
unfolding step_bit
zero-read M ones g h k = rw (ne_eqb ones 5 (omega arith), ne_eqb ones 6 (omega arith)) (gathers M ones 0 false g k)

-- a zero that ends no flag, while hunting
pub hunted-zero : (M r : ℕ) → eqb r 6 ≡ false → step_bit M (hunts r) false ≡ (hunts 0, [])
unfolding step_bit
hunted-zero M r e = go (eqb r 5) refl
  where
    go : (x : Bool) → eqb r 5 ≡ x → step_bit M (hunts r) false ≡ (hunts 0, [])
    go true f = rw f
    go false f = rw (f, e)
