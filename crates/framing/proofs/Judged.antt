-- The ways to a verdict, over plain values.
use Prim.Native.Nat.{ℕ, ◌*◌, ◌/◌, ◌%◌, ◌≤◌, ◌<◌}
use mathlib.Core.Path.{◌≡◌, sym, ap, ◌∙◌}
use mathlib.Core.Bool.{Bool, true}
use mathlib.Core.List.{List}
use native.Mathlib.Omega.{arith}
use lib.ListN.{length, take}
use lib.Seq.{length-take-le}
use lib.Dec.{eqb}
use borrow.Author.Tests.{lt-ltb, le-ltb, eq-eqb, ne_eqb}
use Rattle.bits.specs.Octets.{line_bits}
use Rattle.bits.specs.Format.{basic}
use Rattle.bits.proofs.Lines.{length-line_bits, line-take}
use Rattle.fcs.specs.Check.{check_bits, check_of, good_residue}
use Rattle.framing.specs.declared.Verdict.TheVariants.{Short, NotWhole, CheckWrong, Good}
use Rattle.framing.specs.Verdict.{verdict_of}

module _ (area : List ℕ) (bits : ℕ) (h : bits ≤ 2224) (l : length area ≡ 279) where
  abbrev unit : List Bool
  unit = take bits (line_bits area)

  unit-length : length unit ≡ bits
  unit-length = length-take-le bits (line_bits area) (omega (arith, length-line_bits area))

  pub short-way : bits < 40 → Short ≡ verdict_of basic unit
  unfolding verdict_of
  short-way s = rw (lt-ltb (length unit) 40 (omega (arith, unit-length)))

  pub odd-way : 40 ≤ bits → (bits % 8 ≡ 0 → ⊥) → NotWhole ≡ verdict_of basic unit
  unfolding verdict_of
  odd-way s o =
      let e : length unit % 8 ≡ bits % 8 = ap (λ (n : ℕ). n % 8) unit-length in
      rw (le-ltb (length unit) 40 (omega (arith, unit-length)), ne_eqb (length unit % 8) 0 (omega arith))

  -- the register after the octets is the register after the unit's bits
  register : bits % 8 ≡ 0 → check_of (take (bits / 8) area) ≡ check_bits 0xffff unit
  unfolding check_of
  register o =
      let e : bits / 8 * 8 ≡ bits = omega arith in
      ap (check_bits 0xffff) (line-take (bits / 8) area ∙ ap (λ (n : ℕ). take n (line_bits area)) e)

  module _ (s : 40 ≤ bits) (o : bits % 8 ≡ 0) (r : ℕ) (e : r ≡ check_of (take (bits / 8) area)) where
    whole : eqb (length unit % 8) 0 ≡ true
    whole = eq-eqb (length unit % 8) 0 (ap (λ (n : ℕ). n % 8) unit-length ∙ o)

    pub good-way : r ≡ 0xf0b8 → Good ≡ verdict_of basic unit
    unfolding verdict_of
    good-way g =
        rw (le-ltb (length unit) 40 (omega (arith, unit-length)), whole, eq-eqb (check_bits 0xffff unit) good_residue (sym (register o) ∙ sym e ∙ g))

    pub wrong-way : (r ≡ 0xf0b8 → ⊥) → CheckWrong ≡ verdict_of basic unit
    unfolding verdict_of
    wrong-way g =
        rw (le-ltb (length unit) 40 (omega (arith, unit-length)), whole, ne_eqb (check_bits 0xffff unit) good_residue (λ q. g (e ∙ register o ∙ q)))
