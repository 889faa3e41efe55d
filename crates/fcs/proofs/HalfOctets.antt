-- Half an octet at once, from the sixteen constants.
use mathlib.Core.Path.{◌≡◌, refl, sym, ap, ◌∙◌}
use mathlib.Core.Bool.{Bool}
use mathlib.Core.List.{List, [], ◌∷◌}
use Prim.Native.Nat.{ℕ, ◌/◌, ◌%◌, ◌<◌}
use native.Mathlib.Omega.{arith}
use lib.Bits.{bit_xor}
use lib.ListN.{get_or}
use Rattle.bits.specs.Octets.{bits_of, line_bits}
use Rattle.bits.specs.Machine.{run}
use Rattle.bits.proofs.Machines.{run-append}
use Rattle.bits.proofs.Digits.{bits-low, bits-more}
use Rattle.fcs.specs.Check.{check_bit, check_bits, check_of, check_octets}
use Rattle.fcs.specs.HalfOctets.{constants, check_half, half_octets, WorkedExample}
use Rattle.fcs.specs.Table.{zeros, table_from}
use Rattle.fcs.specs.Promises.{HalfOctetStep, CheckByHalves}
use Rattle.fcs.proofs.Linear.{block-zeros}
use Rattle.fcs.proofs.Tables.{word_at}

-- ---- the test, computed over all sixteen: the constant at n is what four zero bits make of a register n
all_right : constants ≡ table_from (zeros 4) 0 16
unfolding constants table_from
all_right = refl

constant-at : (n : ℕ) → n < 16 → get_or constants n 0 ≡ zeros 4 n
constant-at n h = ap (λ (words : List ℕ). get_or words n 0) all_right ∙ word_at (zeros 4) 16 n h

-- ---- one step, and an octet's two
pub half-octet-step : HalfOctetStep
half-octet-step r half = ap (bit_xor (r / 16)) (constant-at (bit_xor r half % 16) (omega arith)) ∙ sym (block-zeros 4 r half)

pub octet-halves : (r o : ℕ) → check_bits (check_bits r (bits_of 4 (o % 16))) (bits_of 4 (o / 16)) ≡ check_bits r (bits_of 8 o)
octet-halves r o =
    ap (λ (bs : List Bool). check_bits (check_bits r bs) (bits_of 4 (o / 16))) (bits-low 4 o)
    ∙ sym (run-append check_bit (bits_of 4 o) (bits_of 4 (o / 16)) r)
    ∙ ap (check_bits r) (bits-more 4 4 o)

-- ---- octets by their half octets
octet-steps : (r o : ℕ) → check_half (check_half r (o % 16)) (o / 16) ≡ check_bits r (bits_of 8 o)
octet-steps r o =
    half-octet-step (check_half r (o % 16)) (o / 16)
    ∙ ap (λ (n : ℕ). check_bits n (bits_of 4 (o / 16))) (half-octet-step r (o % 16))
    ∙ octet-halves r o

from : (r : ℕ) (octets : List ℕ) → run check_half r (half_octets octets) ≡ check_bits r (line_bits octets)
unfolding half_octets line_bits
from r [] = refl
from r (o ∷ octets) =
    ap (λ (n : ℕ). run check_half n (half_octets octets)) (octet-steps r o)
    ∙ from (check_bits r (bits_of 8 o)) octets
    ∙ sym (run-append check_bit (bits_of 8 o) (line_bits octets) r)

pub check-by-halves : CheckByHalves
unfolding check_of
check-by-halves octets = from 0xffff octets

-- ---- the example, computed
pub worked-example : WorkedExample
unfolding constants half_octets check_octets check_of line_bits bits_of
worked-example = (refl, refl, refl, refl, refl, refl, refl, refl)
