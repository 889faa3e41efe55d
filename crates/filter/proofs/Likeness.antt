-- Octets under the mask, equal octets, and units that are alike.
use Prim.Native.Nat.{ℕ}
use mathlib.Core.Path.{◌≡◌, refl, sym, ap, ap₂, ◌∙◌}
use mathlib.Core.Logic.{◌↔◌}
use mathlib.Core.Bool.{Bool, true, ◌&&◌}
use mathlib.Core.List.{List, [], ◌∷◌}
use native.Mathlib.Omega.{arith}
use lib.Bits.{bit_and}
use lib.Dec.{eqb}
use lib.Pointwise.{pointwise}
use lib.ListN.{length, take, get_or}
use borrow.Author.Tests.{eqb-true, eq-eqb}
use Rattle.std.proofs.lemmas.Bool.{and_parts}
use Rattle.filter.specs.Unit.{masked, same, alike}

-- ---- five octets
-- a list of five is its five elements
pub of-five : (xs : List ℕ) → length xs ≡ 5 → xs ≡ get_or xs 0 0 ∷ get_or xs 1 0 ∷ get_or xs 2 0 ∷ get_or xs 3 0 ∷ get_or xs 4 0 ∷ []
of-five [] h = absurd (omega arith)
of-five (a ∷ []) h = absurd (omega arith)
of-five (a ∷ b ∷ []) h = absurd (omega arith)
of-five (a ∷ b ∷ c ∷ []) h = absurd (omega arith)
of-five (a ∷ b ∷ c ∷ d ∷ []) h = absurd (omega arith)
of-five (a ∷ b ∷ c ∷ d ∷ e ∷ []) h = refl
of-five (a ∷ b ∷ c ∷ d ∷ e ∷ f ∷ xs) h = absurd (omega arith)

-- ---- the mask
-- only as many octets as the mask has are looked at
pub masked-take : (mask u : List ℕ) → masked mask u ≡ masked mask (take (length mask) u)
unfolding masked
masked-take [] u = refl
masked-take (m ∷ ms) [] = refl
masked-take (m ∷ ms) (x ∷ u) = ap {B = List ℕ} (λ l. bit_and x m ∷ l) (masked-take ms u)

pub masked-first : (n : ℕ) (mask u : List ℕ) → length mask ≡ n → masked mask u ≡ masked mask (take n u)
masked-first n mask u h = masked-take mask u ∙ ap (λ (k : ℕ). masked mask (take k u)) h

-- ---- the same octets
pub same-equal : (xs ys : List ℕ) → same xs ys ≡ true → xs ≡ ys
unfolding same
same-equal [] [] e = refl
same-equal [] (y ∷ ys) e = cc
same-equal (x ∷ xs) [] e = cc
same-equal (x ∷ xs) (y ∷ ys) e =
    let p = and_parts (eqb x y) (same xs ys) e in
    ap₂ {C = List ℕ} (λ a l. a ∷ l) (eqb-true x y p.0) (same-equal xs ys p.1)

pub same_self : (xs : List ℕ) → same xs xs ≡ true
unfolding same
same_self [] = refl
same_self (x ∷ xs) = rw (eq-eqb x x refl) (same_self xs)

-- `same` is equality
pub same-exactly : (xs ys : List ℕ) → (same xs ys ≡ true) ↔ (xs ≡ ys)
same-exactly xs ys = (same-equal xs ys, λ e. ap (same xs) (sym e) ∙ same_self xs)

-- and the library's test of two lists, place by place
pub pointwise-same : (xs ys : List ℕ) → pointwise eqb xs ys ≡ same xs ys
unfolding same
pointwise-same [] [] = refl
pointwise-same [] (y ∷ ys) = refl
pointwise-same (x ∷ xs) [] = refl
pointwise-same (x ∷ xs) (y ∷ ys) = ap (λ (b : Bool). eqb x y && b) (pointwise-same xs ys)

-- ---- alike
-- an equal length and equal octets, as the tests have it
pub equal-parts : (a b : ℕ) (xs ys : List ℕ) → eqb a b && same xs ys ≡ true → (a ≡ b) × (xs ≡ ys)
equal-parts a b xs ys e =
    let p = and_parts (eqb a b) (same xs ys) e in
    (eqb-true a b p.0, same-equal xs ys p.1)

module _ (mask : List ℕ) where
  pub alike-parts : (u v : List ℕ) → alike mask u v ≡ true → (length u ≡ length v) × (masked mask u ≡ masked mask v)
  alike-parts u v = equal-parts (length u) (length v) (masked mask u) (masked mask v)

  pub alike-of-parts : (u v : List ℕ) → length u ≡ length v → masked mask u ≡ masked mask v → alike mask u v ≡ true
  alike-of-parts u v l o = rw (eq-eqb (length u) (length v) l) ((same-exactly (masked mask u) (masked mask v)).1 o)

  pub alike-symmetric : (u v : List ℕ) → alike mask u v ≡ true → alike mask v u ≡ true
  alike-symmetric u v h =
      let p = alike-parts u v h in
      alike-of-parts v u (sym p.0) (sym p.1)

  pub alike-transitive : (u v w : List ℕ) → alike mask u v ≡ true → alike mask v w ≡ true → alike mask u w ≡ true
  alike-transitive u v w h k =
      let p = alike-parts u v h in
      let q = alike-parts v w k in
      alike-of-parts u w (p.0 ∙ q.0) (p.1 ∙ q.1)
