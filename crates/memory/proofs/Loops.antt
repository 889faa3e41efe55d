-- Over any list: all its elements are or-ed, or each is written with a target's element.
use Prim.Native.Nat.{ℕ, suc, ◌+◌, ◌<◌, ◌≤◌}
use mathlib.Core.Path.{◌≡◌, refl, sym, ◌∙◌}
use mathlib.Core.Bool.{Bool, true, false, ◌&&◌, and-true, and_assoc}
use mathlib.Core.List.{List, [], ◌∷◌, ◌++◌, append_assoc, append-nil}
use native.Mathlib.Numerals.{add-one}
use native.Mathlib.Omega.{arith}
use borrow.Author.Tests.{eq-eqb, ne_eqb, eqb-true, eqb-false}
use lib.Bits.{bit_or, or_add_and, and_le_l, and_le_r}
use lib.Dec.{eqb}
use lib.ListN.{length, get_or, take, drop, set, length-set, drop_of_length-le}
use lib.Seq.{drop-cons, take-suc, take_all, set_at, length-take-le}
use Rattle.std.specs.List.{fold}
use Rattle.memory.specs.Lent.{zeros}

-- ---- elements or-ed
pub or-zero : (a b : ℕ) → eqb (bit_or a b) 0 ≡ eqb a 0 && eqb b 0
or-zero a b = go (eqb a 0) (eqb b 0) refl refl
  where
    go : (x y : Bool) → eqb a 0 ≡ x → eqb b 0 ≡ y → eqb (bit_or a b) 0 ≡ x && y
    go true true p q = eq-eqb (bit_or a b) 0 (omega (arith, or_add_and a b, eqb-true a 0 p, eqb-true b 0 q))
    go true false p q = ne_eqb (bit_or a b) 0 (λ z. eqb-false b 0 q (omega (arith, or_add_and a b, and_le_l a b)))
    go false y p q = ne_eqb (bit_or a b) 0 (λ z. eqb-false a 0 p (omega (arith, or_add_and a b, and_le_r a b)))

pub or_fold : (a : ℕ) (xs : List ℕ) → eqb (fold bit_or a xs) 0 ≡ eqb a 0 && zeros xs
unfolding zeros
or_fold a [] = sym (and-true (eqb a 0))
or_fold a (x ∷ xs) = or_fold (bit_or a x) xs ∙ rw (or-zero a x, and_assoc (eqb a 0) (eqb x 0) (zeros xs))

-- ---- i elements of the target t written over those of d, which gives s
pub record Written (t d s : List ℕ) (i : ℕ) : Type 0 where
  pub sized : length t ≡ length d
  pub within : i ≤ length d
  pub long : length s ≡ length d
  pub is : s ≡ take i t ++ drop i d

pub write-start : (t d : List ℕ) → length t ≡ length d → Written t d d 0
write-start t d e = record { sized = e; within = omega arith; long = refl; is = refl }

written : (t d : List ℕ) (i : ℕ) → i < length t → i < length d
    → set (take i t ++ drop i d) i (get_or t i 0) ≡ take (i + 1) t ++ drop (i + 1) d
written t d i ht hd =
    rw (add-one, drop-cons d i 0 hd, take-suc t i 0 ht)
    (set_at (take i t) (get_or d i 0) (drop (suc i) d) (get_or t i 0) i (length-take-le i t (omega arith))
    ∙ sym (append_assoc (take i t) (get_or t i 0 ∷ []) (drop (suc i) d)))

module _ {t d s : List ℕ} {i : ℕ} (w : Written t d s i) where
  pub write-more : {v : ℕ} → i < length s → v ≡ get_or t i 0 → Written t d (set s i v) (i + 1)
  write-more {v} h e = record {
    sized = w.sized;
    within = omega (arith, w.long);
    long = length-set s i v ∙ w.long;
    is = rw (e, w.is) (written t d i (omega (arith, w.long, w.sized)) (omega (arith, w.long)));
  }

  pub write-end : length s ≤ i → s ≡ t
  write-end h =
      let t≤i : length t ≤ i = omega (arith, w.long, w.sized) in
      let d≤i : length d ≤ i = omega (arith, w.long) in
      w.is ∙ rw (take_all i t t≤i, drop_of_length-le d d≤i) (append-nil t)
