-- What comes to a machine in two parts runs, and puts out, as one.
use mathlib.Core.List.{List, [], ◌∷◌, ◌++◌, append_assoc}
use mathlib.Core.Path.{◌≡◌, refl, sym, ap, ◌∙◌}
use Rattle.bits.specs.Machine.{run, outs}

module _ {S A : Type 0} (step : S → A → S) where
  pub run-append : (xs ys : List A) (s : S) → run step s (xs ++ ys) ≡ run step (run step s xs) ys
  run-append [] ys s = refl
  run-append (x ∷ xs) ys s = run-append xs ys (step s x)

module _ {S A B : Type 0} (step : S → A → S) (put : S → A → List B) where
  pub outs-append : (xs ys : List A) (s : S) → outs step put s (xs ++ ys) ≡ outs step put s xs ++ outs step put (run step s xs) ys
  outs-append [] ys s = refl
  outs-append (x ∷ xs) ys s =
      ap (λ (l : List B). put s x ++ l) (outs-append xs ys (step s x))
      ∙ sym (append_assoc (put s x) (outs step put (step s x) xs) (outs step put (run step (step s x) xs) ys))
