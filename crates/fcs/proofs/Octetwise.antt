-- Eight bits at once, by the table.
use mathlib.Core.Path.{◌≡◌, sym, ap, ap₂, ◌∙◌}
use mathlib.Core.List.{List}
use Prim.Native.Nat.{ℕ, ◌+◌, ◌*◌, ◌/◌, ◌%◌, ◌<◌}
use native.Mathlib.Omega.{arith}
use lib.Bits.{bit_xor}
use lib.ListN.{get_or}
use Rattle.bits.specs.Octets.{bits_of}
use Rattle.fcs.specs.Check.{check_bits}
use Rattle.fcs.specs.Table.{zeros, check_table}
use Rattle.fcs.specs.Promises.{OctetByTable}
use Rattle.fcs.proofs.Linear.{block-zeros}
use Rattle.fcs.proofs.Tables.{word_at}

pub word : (i j k : ℕ) → i / 256 ≡ j → i % 256 ≡ k → i < 1024 → get_or check_table i 0 ≡ zeros (8 * (j + 1)) k
unfolding check_table
word i j k p q h =
    word_at (λ (m : ℕ). zeros (8 * (m / 256 + 1)) (m % 256)) 1024 i h ∙ ap₂ (λ (m n : ℕ). zeros (8 * (m + 1)) n) p q

-- an octet's bits: the register moves down by eight, and what eight zero bits make of its low octet, turned where the octet has ones, is added
pub octet-zeros : (r o : ℕ) → check_bits r (bits_of 8 o) ≡ bit_xor (r / 256) (zeros 8 (bit_xor r o % 256))
octet-zeros r o = block-zeros 8 r o

pub octet-by-table : OctetByTable
octet-by-table r o =
    let y : ℕ = bit_xor r o % 256 in
    octet-zeros r o ∙ ap (bit_xor (r / 256)) (sym (word y 0 y (omega arith) (omega arith) (omega arith)))

-- with the table lent
pub octet-by-lent : (t : List ℕ) → t ≡ check_table → (r o : ℕ) → bit_xor (r / 256) (get_or t (bit_xor r o % 256) 0) ≡ check_bits r (bits_of 8 o)
octet-by-lent t e r o = ap (λ (w : List ℕ). bit_xor (r / 256) (get_or w (bit_xor r o % 256) 0)) e ∙ sym (octet-by-table r o)
