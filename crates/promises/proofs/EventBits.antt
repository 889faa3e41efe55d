-- One bit of a word of event bits.
use Prim.Native.Nat.{ℕ, ◌+◌, ◌%◌, ◌<◌, min, max}
use mathlib.Core.Path.{◌≡◌, ap, ◌∙◌}
use mathlib.Core.Bool.{not, ◌&&◌, ◌||◌}
use native.Mathlib.Omega.{arith}
use lib.Bits.{bit_and, bit_or}
use lib.Dec.{eqb}
use Rattle.std.specs.Int.{bit_at}
use Rattle.std.proofs.lemmas.Nat.Bits.{bit_at_and, bit_at_or, bit_at_xor, bit_at-lt}
use Rattle.std.proofs.lemmas.Bool.Decides.{nat_tests}
use Rattle.board.specs.declared.events.Event.{Event}
use Rattle.board.specs.Events.{event_number}
use Rattle.link.specs.Calls.{without_bits}
use Rattle.promises.specs.Demand3.{bit_set}

-- two bits, as tests
either-bit : (a b : ℕ) → a < 2 → b < 2 → eqb (max a b) 1 ≡ eqb a 1 || eqb b 1
either-bit a b p q = grind (arith, nat_tests)

bit-left : (a b : ℕ) → a < 2 → b < 2 → eqb ((a + min a b) % 2) 1 ≡ eqb a 1 && not (eqb b 1)
bit-left a b p q = grind (arith, nat_tests)

module _ (e : Event) (x y : ℕ) where
  abbrev n : ℕ
  n = event_number e

  pub bit-or : bit_set e (bit_or x y) ≡ bit_set e x || bit_set e y
  bit-or = ap (λ (b : ℕ). eqb b 1) (bit_at_or x y n) ∙ either-bit (bit_at x n) (bit_at y n) (bit_at-lt x n) (bit_at-lt y n)

  pub bit-without : bit_set e (without_bits x y) ≡ bit_set e x && not (bit_set e y)
  bit-without =
      ap (λ (b : ℕ). eqb b 1)
      (bit_at_xor x (bit_and x y) n ∙ ap (λ (b : ℕ). (bit_at x n + b) % 2) (bit_at_and x y n))
      ∙ bit-left (bit_at x n) (bit_at y n) (bit_at-lt x n) (bit_at-lt y n)
