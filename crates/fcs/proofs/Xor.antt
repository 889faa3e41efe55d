-- What the library lacks of xor: the lowest bit of a result, and that what is added twice is gone.
use mathlib.Core.Path.{◌≡◌, refl, sym, ap, ◌∙◌}
use Prim.Native.Nat.{ℕ, zero, suc, ◌/◌, ◌%◌, ◌<◌}
use native.Mathlib.Omega.{arith}
use lib.Bits.{bit_xor, differ, xor_shr, xor_mod, xor_assoc, xor_zero_l, xor_zero_r, xor_self}

small : (d e : ℕ) → d < 2 → e < 2 → bit_xor d e ≡ differ d e
small zero e p q = refl
small (suc zero) zero p q = refl
small (suc zero) (suc zero) p q = refl
small (suc zero) (suc (suc e)) p q = absurd (omega arith)
small (suc (suc d)) e p q = absurd (omega arith)

pub xor_low : (a b : ℕ) → bit_xor a b % 2 ≡ differ (a % 2) (b % 2)
xor_low a b = xor_mod a b 1 ∙ small (a % 2) (b % 2) (omega arith) (omega arith)

pub xor-half : (a b : ℕ) → bit_xor a b / 2 ≡ bit_xor (a / 2) (b / 2)
xor-half a b = xor_shr a b 1

pub twice-right : (a b : ℕ) → bit_xor (bit_xor a b) b ≡ a
twice-right a b = xor_assoc a b b ∙ ap (bit_xor a) (xor_self b) ∙ xor_zero_r a

pub twice-left : (a b : ℕ) → bit_xor a (bit_xor a b) ≡ b
twice-left a b = sym (xor_assoc a a b) ∙ ap (λ (n : ℕ). bit_xor n b) (xor_self a) ∙ xor_zero_l b
