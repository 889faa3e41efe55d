-- The rows of stuffing: each is that of its count of ones and octet, and what its three numbers say.
use Prim.Native.Nat.{ℕ, ◌+◌, ◌*◌, ◌/◌, ◌%◌, ◌^◌, ◌≤◌, ◌<◌}
use mathlib.Core.Path.{◌≡◌, refl, sym, ap, ap₂, ◌∙◌}
use mathlib.Core.List.{List}
use native.Mathlib.Nat.{lt_of_lt_of_le}
use native.Mathlib.Omega.{arith}
use lib.ListN.{length, get_or}
use lib.Pow.{pow_mono}
use Rattle.bits.specs.Octets.{bits_of, octet_of}
use Rattle.bits.proofs.Digits.{length-bits_of, all_back, octet_of-lt}
use Rattle.fcs.proofs.Tables.{pair-at}
use Rattle.sending.specs.Stuffing.{stuffed, ones_over, zeros_in}
use Rattle.sending.specs.Rows.{row_of, stuffing_table}
use Rattle.sending.specs.Promises.{EachRow}
use Rattle.sending.proofs.Stuffs.{stuffed-length, over-le, five-bits}

pub each_row : EachRow
unfolding stuffing_table
each_row ones x h k = pair-at row_of stuffing_table 1280 ones x refl k (omega arith)

three-numbers : (row v z o : ℕ) → row ≡ v + z * 1024 + o * 4096 → v < 1024 → z ≤ 2 → (row % 1024 ≡ v) × (row / 1024 % 4 ≡ z) × (row / 4096 ≡ o)
three-numbers row v z o e h k = omega arith

-- what the code takes from a row: a piece, the number of its bits less eight, and the ones in a row then
pub record Says (ones x row : ℕ) : Type 0 where
  pub piece : bits_of (8 + row / 1024 % 4) (row % 1024) ≡ stuffed ones (bits_of 8 x)
  pub small : row % 1024 < 2 ^ (8 + row / 1024 % 4)
  pub few : row / 1024 % 4 ≤ 2
  pub then : row / 4096 ≡ ones_over ones (bits_of 8 x)
  pub short : row / 4096 ≤ 4

pub row-says : (rows : List ℕ) (ones x at : ℕ) → rows ≡ stuffing_table → at ≡ ones * 256 + x → ones ≤ 4 → x < 256 → Says ones x (get_or rows at 0)
unfolding row_of
row-says rows ones x at e p h k =
    let row = get_or rows at 0 in
    let bits = bits_of 8 x in
    let st = stuffed ones bits in
    let zeros = length (zeros_in ones bits) in
    let eight : length bits ≡ 8 = length-bits_of 8 x in
    let z : zeros ≤ 2 = omega (arith, five-bits ones bits h) in
    let l : length st ≡ 8 + zeros = stuffed-length ones bits ∙ ap (λ (n : ℕ). n + zeros) eight in
    let ten : length st ≤ 10 = omega arith in
    let v : octet_of st < 1024 = lt_of_lt_of_le (octet_of-lt st) (pow_mono ten) in
    let n = three-numbers row (octet_of st) zeros (ones_over ones bits) (ap₂ (λ (l : List ℕ) (i : ℕ). get_or l i 0) e p ∙ each_row ones x h k) v z in
    let many : 8 + row / 1024 % 4 ≡ length st = ap (λ (i : ℕ). 8 + i) n.1 ∙ sym l in
    record {
      piece = ap₂ bits_of many n.0 ∙ all_back (length st) st refl;
      small = rw (many, n.0) (octet_of-lt st);
      few = omega (arith, n.1);
      then = n.2;
      short = omega (arith, n.2, over-le ones bits h);
    }
