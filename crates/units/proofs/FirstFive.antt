-- The first five octets of a unit, zero filled.
use Rattle.std.proofs.Common.{◌≡◌, ℕ, ◌≤◌, List, [], ◌∷◌, ◌++◌, length, take, drop, sym, refl, arith}
use Rattle.std.specs.Prelude.{min}
use lib.Seq.{take-append-le}
use Rattle.units.specs.Units.{first_five}

pub five-length : (os : List ℕ) → length (first_five os) ≡ 5
five-length [] = refl
five-length (a ∷ []) = refl
five-length (a ∷ b ∷ []) = refl
five-length (a ∷ b ∷ c ∷ []) = refl
five-length (a ∷ b ∷ c ∷ d ∷ []) = refl
five-length (a ∷ b ∷ c ∷ d ∷ e ∷ os) = refl

-- of five octets or more they are the first five
pub five-take : (os : List ℕ) → 5 ≤ length os → take 5 os ≡ first_five os
five-take os h = sym (take-append-le 5 os (0 ∷ 0 ∷ 0 ∷ 0 ∷ 0 ∷ []) h)

-- five zeros of which the first are written over
pub five-over : (os : List ℕ) (n : ℕ) → n ≡ min (length os) 5 → take n os ++ drop n (0 ∷ 0 ∷ 0 ∷ 0 ∷ 0 ∷ []) ≡ first_five os
five-over [] n e = rw e
five-over (a ∷ []) n e = rw e
five-over (a ∷ b ∷ []) n e = rw e
five-over (a ∷ b ∷ c ∷ []) n e = rw e
five-over (a ∷ b ∷ c ∷ d ∷ []) n e = rw e
five-over (a ∷ b ∷ c ∷ d ∷ x ∷ os) n e = let m : n ≡ 5 = omega arith in rw m
