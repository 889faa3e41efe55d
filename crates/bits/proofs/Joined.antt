-- Bits joined to others, as a number: its lowest eight are the first octet, and the rest follows.
use Prim.Native.Nat.{ℕ, suc, ◌+◌, ◌-◌, ◌*◌, ◌/◌, ◌%◌, ◌^◌, ◌≤◌, ◌<◌}
use mathlib.Core.Path.{◌≡◌, sym, ap, ap₂, ◌∙◌}
use mathlib.Core.Bool.{Bool}
use mathlib.Core.List.{List, [], ◌∷◌, ◌++◌}
use native.Mathlib.Nat.{pow-suc, mul_assoc}
use native.Mathlib.Omega.{arith}
use lib.ListN.{length, take, drop, length-drop, take-append-drop}
use lib.Seq.{length-take-le}
use Rattle.bits.specs.Octets.{octet_of, whole_octets, bits_after}
use Rattle.bits.proofs.Digits.{octet_of-lt}
use Rattle.bits.proofs.Whole.{whole-few, after-few, whole-eight, after-eight, whole_append, after-append}

-- the number of bits in two parts
pub octet_of-append : (g h : List Bool) → octet_of (g ++ h) ≡ octet_of g + octet_of h * 2 ^ length g
unfolding octet_of
octet_of-append [] h = omega arith
octet_of-append (x ∷ g) h =
    let e : octet_of h * 2 ^ suc (length g) ≡ octet_of h * 2 ^ length g * 2 = ap (λ (k : ℕ). octet_of h * k) (pow-suc 2 (length g)) ∙ sym (mul_assoc (octet_of h) (2 ^ length g) 2) in
    omega (arith, octet_of-append g h)

-- of eight bits and more: the lowest eight, and the rest
module _ (j : List Bool) (h : 8 ≤ length j) where
  eight : length (take 8 j) ≡ 8
  eight = length-take-le 8 j h

  eight-and-more : octet_of j ≡ octet_of (take 8 j) + octet_of (drop 8 j) * 256
  eight-and-more =
      ap octet_of (sym (take-append-drop 8 j)) ∙ octet_of-append (take 8 j) (drop 8 j)
      ∙ ap (λ (k : ℕ). octet_of (take 8 j) + octet_of (drop 8 j) * 2 ^ k) eight

  eight-small : octet_of (take 8 j) < 256
  eight-small =
      let p : 2 ^ length (take 8 j) ≡ 256 = ap (λ (k : ℕ). 2 ^ k) eight in
      omega (arith, octet_of-lt (take 8 j))

  pub low-eight : octet_of j % 256 ≡ octet_of (take 8 j)
  low-eight = omega (arith, eight-and-more, eight-small)

  pub past-eight : octet_of j / 256 ≡ octet_of (drop 8 j)
  past-eight = omega (arith, eight-and-more, eight-small)

  pub rest-length : length (drop 8 j) ≡ length j - 8
  rest-length = length-drop 8 j

  -- an octet goes out, then those of the rest
  pub whole-first : whole_octets j ≡ octet_of j % 256 ∷ whole_octets (drop 8 j)
  whole-first =
      ap whole_octets (sym (take-append-drop 8 j)) ∙ whole_append (take 8 j) (drop 8 j)
      ∙ ap₂ (λ (a : List ℕ) (b : List Bool). a ++ whole_octets (b ++ drop 8 j))
      (whole-eight (take 8 j) eight ∙ ap {B = List ℕ} (λ (x : ℕ). x ∷ []) (sym low-eight))
      (after-eight (take 8 j) eight)

  pub after_first : bits_after j ≡ bits_after (drop 8 j)
  after_first =
      ap bits_after (sym (take-append-drop 8 j)) ∙ after-append (take 8 j) (drop 8 j)
      ∙ ap (λ (b : List Bool). bits_after (b ++ drop 8 j)) (after-eight (take 8 j) eight)

  -- with up to seven bits more
  module _ (k : length j < 16) where
    few : length (drop 8 j) < 8
    few = omega (arith, rest-length)

    pub whole-one : whole_octets j ≡ octet_of j % 256 ∷ []
    whole-one = whole-first ∙ ap {B = List ℕ} (λ (x : List ℕ). octet_of j % 256 ∷ x) (whole-few (drop 8 j) few)

    pub after_one : bits_after j ≡ drop 8 j
    after_one = after_first ∙ after-few (drop 8 j) few
