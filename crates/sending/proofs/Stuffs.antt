-- Stuffing in two parts, how many zeros it puts in, and how long a unit is on the line.
use Prim.Native.Nat.{ℕ, zero, suc, ◌+◌, ◌*◌, ◌≤◌}
use mathlib.Core.Path.{◌≡◌, refl}
use mathlib.Core.Bool.{Bool, true, false}
use mathlib.Core.List.{List, [], ◌∷◌, ◌++◌}
use native.Mathlib.Omega.{arith}
use lib.ListN.{length, length-append}
use Rattle.bits.proofs.Machines.{run-append, outs-append}
use Rattle.bits.proofs.Lines.{length-line_bits}
use Rattle.bits.proofs.Whole.{length_whole}
use Rattle.fcs.specs.Check.{check_octets}
use Rattle.sending.specs.Stuffing.{ones_after, zero_after, stuffed, ones_over, zeros_in, flag, unit_bits, unit_line}
use Rattle.sending.specs.Promises.{ZerosFifth, FewOctets}

pub stuffed-append : (xs ys : List Bool) (ones : ℕ) → stuffed ones (xs ++ ys) ≡ stuffed ones xs ++ stuffed (ones_over ones xs) ys
stuffed-append = outs-append ones_after (λ ones b. b ∷ zero_after ones b)

pub ones-append : (xs ys : List Bool) (ones : ℕ) → ones_over ones (xs ++ ys) ≡ ones_over (ones_over ones xs) ys
ones-append = run-append ones_after

-- ---- four ones in a row at most
pub after-le : (ones : ℕ) (b : Bool) → ones ≤ 4 → ones_after ones b ≤ 4
after-le ones false h = omega arith
after-le zero true h = omega arith
after-le (suc zero) true h = omega arith
after-le (suc (suc zero)) true h = omega arith
after-le (suc (suc (suc zero))) true h = omega arith
after-le (suc (suc (suc (suc zero)))) true h = omega arith
after-le (suc (suc (suc (suc (suc ones))))) true h = absurd (omega arith)

pub over-le : (ones : ℕ) (bs : List Bool) → ones ≤ 4 → ones_over ones bs ≤ 4
over-le ones [] h = h
over-le ones (b ∷ bs) h = over-le (ones_after ones b) bs (after-le ones b h)

-- ---- lengths
pub stuffed-length : (ones : ℕ) (bs : List Bool) → length (stuffed ones bs) ≡ length bs + length (zeros_in ones bs)
stuffed-length ones [] = refl
stuffed-length ones (b ∷ bs) =
    omega (
      arith,
      stuffed-length (ones_after ones b) bs,
      length-append (zero_after ones b) (stuffed (ones_after ones b) bs),
      length-append (zero_after ones b) (zeros_in (ones_after ones b) bs),
    )

-- each zero put in uses up five ones
five-ones : (ones : ℕ) (b : Bool) → ones ≤ 4 → 5 * length (zero_after ones b) + ones_after ones b ≤ ones + 1
five-ones ones false h = omega arith
five-ones zero true h = omega arith
five-ones (suc zero) true h = omega arith
five-ones (suc (suc zero)) true h = omega arith
five-ones (suc (suc (suc zero))) true h = omega arith
five-ones (suc (suc (suc (suc zero)))) true h = omega arith
five-ones (suc (suc (suc (suc (suc ones))))) true h = absurd (omega arith)

pub five-bits : (ones : ℕ) (bs : List Bool) → ones ≤ 4 → 5 * length (zeros_in ones bs) ≤ ones + length bs
five-bits ones [] h = omega arith
five-bits ones (b ∷ bs) h =
    omega (
      arith,
      five-bits (ones_after ones b) bs (after-le ones b h),
      five-ones ones b h,
      length-append (zero_after ones b) (zeros_in (ones_after ones b) bs),
    )

pub zeros-fifth : ZerosFifth
zeros-fifth bs = omega (arith, five-bits 0 bs (omega arith))

pub unit-bits : (content : List ℕ) → length (unit_bits content) ≡ 8 * length content + 16
unfolding unit_bits check_octets
unit-bits content =
    omega (arith, length-line_bits (content ++ check_octets content), length-append content (check_octets content))

pub unit-length : (content : List ℕ) → length content ≤ 276 → length (unit_line content) ≤ 2676
unfolding unit_line
unit-length content h =
    omega (
      arith,
      length-append (stuffed 0 (unit_bits content)) flag,
      stuffed-length 0 (unit_bits content),
      zeros-fifth (unit_bits content),
      unit-bits content,
    )

pub few-octets : FewOctets
few-octets before content h k =
    omega (
      arith,
      length_whole (before ++ unit_line content),
      length-append before (unit_line content),
      unit-length content k,
    )
