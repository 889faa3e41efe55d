-- Lists in two parts.
use Prim.Native.Nat.{◌≤◌}
use mathlib.Core.Path.{◌≡◌, refl, sym, ap, ◌∙◌}
use mathlib.Core.List.{List, [], ◌∷◌, ◌++◌, append_assoc}
use lib.ListN.{length, take, drop, take-append-drop}
use lib.Seq.{take-append-le, drop-append-le, take_at, drop_at}

module _ {A : Type 0} where
  -- a list cut in two places, the second not behind the first
  pub record Seam (xs ys front back : List A) : Type 0 where
    pub between : List A
    pub first : xs ≡ front ++ between
    pub rest : between ++ ys ≡ back

  pub seam : (xs ys front back : List A) → xs ++ ys ≡ front ++ back → length front ≤ length xs → Seam xs ys front back
  seam xs ys front back e h =
      let n = length front in
      record {
        between = drop n xs;
        first =
            sym (take-append-drop n xs)
            ∙ ap (λ (l : List A). l ++ drop n xs) (sym (take-append-le n xs ys h) ∙ ap (take n) e ∙ take_at front back n refl);
        rest = sym (drop-append-le n xs ys h) ∙ ap (drop n) e ∙ drop_at front back n refl;
      }

-- what is made of each element in turn, of lists one after the other
pub made-append : {A B : Type 0} (f : A → List B) (F : List A → List B) → F [] ≡ [] → ((x : A) (xs : List A) → F (x ∷ xs) ≡ f x ++ F xs)
    → (xs ys : List A) → F (xs ++ ys) ≡ F xs ++ F ys
made-append {A} {B} f F none step [] ys = ap (λ (l : List B). l ++ F ys) (sym none)
made-append {A} {B} f F none step (x ∷ xs) ys =
    step x (xs ++ ys) ∙ ap (λ (l : List B). f x ++ l) (made-append f F none step xs ys) ∙ sym (append_assoc (f x) (F xs) (F ys))
    ∙ ap (λ (l : List B). l ++ F ys) (sym (step x xs))
