-- Lists taken apart at their end.
use mathlib.Core.Path.{◌≡◌, refl, ap}
use mathlib.Core.Logic.{◌⊎◌, inl, inr, ⊎_elim}
use mathlib.Core.List.{List, [], ◌∷◌, ◌++◌}
use native.Mathlib.Omega.{arith}
use lib.ListN.{length, length-append}

module _ {A : Type 0} where
  -- nothing is not a list with an element
  pub not-nil : (a : List A) (x : A) (b : List A) → [] ≡ a ++ (x ∷ b) → ⊥
  not-nil a x b e = omega (arith, ap length e, length-append a (x ∷ b))

  -- a list is empty, or has a last element
  pub ended : (l : List A) → (l ≡ []) ⊎ ((i : List A) × (z : A) × (l ≡ i ++ (z ∷ [])))
  ended [] = inl refl
  ended (x ∷ l) =
      ⊎_elim {C = (x ∷ l ≡ []) ⊎ ((i : List A) × (z : A) × (x ∷ l ≡ i ++ (z ∷ [])))}
      (λ e. inr ([], x, ap (λ (r : List A). x ∷ r) e)) (λ m. inr (x ∷ m.0, m.1, ap (λ (r : List A). x ∷ r) m.2)) (ended l)
