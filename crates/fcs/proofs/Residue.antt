-- Every content followed by its check octets leaves F0B8.
use mathlib.Core.Path.{◌≡◌, sym, ap, ap₂, ◌∙◌}
use mathlib.Core.Bool.{Bool}
use mathlib.Core.List.{List, [], ◌∷◌, ◌++◌, append-nil}
use Prim.Native.Nat.{ℕ, ◌/◌, ◌%◌, ◌^◌, ◌<◌}
use native.Mathlib.Omega.{arith}
use lib.Bits.{bit_xor, xor_zero_r, xor_lt}
use Rattle.bits.specs.Octets.{bits_of, line_bits, Octets, none, more}
use Rattle.bits.proofs.Machines.{run-append}
use Rattle.bits.proofs.Digits.{bits-low, bits-more}
use Rattle.bits.proofs.Lines.{line-append}
use Rattle.fcs.specs.Check.{check_bit, check_bits, check_of, good_residue, check_octets}
use Rattle.fcs.specs.Promises.{GoodResidue}
use Rattle.fcs.proofs.Linear.{bits-linear, bits-xor, check-lt}

-- a register fed the sixteen bits of its own complement
own-complement : (c : ℕ) → c < 2 ^ 16 → check_bits c (bits_of 16 (bit_xor c 0xffff)) ≡ good_residue
unfolding bits_of
own-complement c h =
    ap₂ check_bits (sym (xor_zero_r c)) (bits-xor 16 c 0xffff)
    ∙ bits-linear (bits_of 16 0xffff) c 0
    ∙ ap (λ (n : ℕ). bit_xor n good_residue) zeroed
  where
    zeroed : c / 2 ^ 16 ≡ 0
    zeroed = omega arith

two-octets : (v : ℕ) → line_bits (v % 256 ∷ v / 256 ∷ []) ≡ bits_of 16 v
unfolding line_bits
two-octets v =
    ap₂ (λ (a b : List Bool). a ++ b) (bits-low 8 v) (append-nil (bits_of 8 (v / 256))) ∙ bits-more 8 8 v

pub register-lt : (os : List ℕ) → check_of os < 2 ^ 16
unfolding check_of
register-lt os = check-lt (line_bits os) 0xffff (omega arith)

pub good-residue : GoodResidue
unfolding check_of check_octets
good-residue content =
    ap (check_bits 0xffff) (line-append content (check_octets content))
    ∙ run-append check_bit (line_bits content) (line_bits (check_octets content)) 0xffff
    ∙ ap (check_bits (check_of content)) (two-octets (bit_xor (check_of content) 0xffff))
    ∙ own-complement (check_of content) (register-lt content)

pub check-are-octets : (content : List ℕ) → Octets (check_octets content)
unfolding check_octets
check-are-octets content =
    let c : bit_xor (check_of content) 0xffff < 2 ^ 16 = xor_lt 16 (check_of content) 0xffff (register-lt content) (omega arith) in
    let low : bit_xor (check_of content) 0xffff % 256 < 256 = omega arith in
    let high : bit_xor (check_of content) 0xffff / 256 < 256 = omega arith in
    more low (more high none)
