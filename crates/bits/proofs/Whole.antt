-- Whole octets of a run of bits and the bits after them.
use Prim.Native.Nat.{ℕ, zero, suc, ◌+◌, ◌*◌, ◌/◌, ◌%◌, ◌≤◌, ◌<◌}
use mathlib.Core.Path.{◌≡◌, sym, ap, ap₂, ◌∙◌}
use mathlib.Core.Bool.{Bool}
use mathlib.Core.List.{List, [], ◌∷◌, ◌++◌}
use native.Mathlib.Omega.{arith}
use lib.ListN.{length, take, drop, length-append, length-drop, take-append-drop, drop_of_length-le}
use lib.Seq.{take_all, drop-append-le, length-take-le, drop-drop}
use Rattle.bits.specs.Octets.{line_bits, octet_of, packed, whole_octets, bits_after, Octets, none, more}
use Rattle.bits.proofs.Lines.{length-line_bits, line-append}
use Rattle.bits.proofs.Packing.{length-packed, packed-add, packed-front, line-packed, repack}

pub length_whole : (bs : List Bool) → length (whole_octets bs) ≡ length bs / 8
unfolding whole_octets
length_whole bs = length-packed (length bs / 8) bs

pub length-after : (bs : List Bool) → length (bits_after bs) ≡ length bs % 8
unfolding bits_after
length-after bs = omega (arith, length-drop (length bs / 8 * 8) bs)

-- fewer than eight bits, and eight
pub whole-few : (bs : List Bool) → length bs < 8 → whole_octets bs ≡ []
unfolding whole_octets packed
whole-few bs h =
    let e : length bs / 8 ≡ 0 = omega arith in
    ap (λ (k : ℕ). packed k bs) e

pub after-few : (bs : List Bool) → length bs < 8 → bits_after bs ≡ bs
unfolding bits_after
after-few bs h =
    let e : length bs / 8 * 8 ≡ 0 = omega arith in
    ap (λ (k : ℕ). drop k bs) e

pub whole-eight : (bs : List Bool) → length bs ≡ 8 → whole_octets bs ≡ octet_of bs ∷ []
unfolding whole_octets packed
whole-eight bs h =
    let e : length bs / 8 ≡ 1 = omega arith in
    ap (λ (k : ℕ). packed k bs) e ∙ ap {B = List ℕ} (λ (x : List Bool). octet_of x ∷ []) (take_all 8 bs (omega arith))

pub after-eight : (bs : List Bool) → length bs ≡ 8 → bits_after bs ≡ []
unfolding bits_after
after-eight bs h =
    let e : length bs / 8 * 8 ≡ 8 = omega arith in
    let l : length bs ≤ 8 = omega arith in
    ap (λ (k : ℕ). drop k bs) e ∙ drop_of_length-le bs l

-- ---- what comes in two parts
module _ (xs ys : List Bool) where
  cut : drop (length xs / 8 * 8) (xs ++ ys) ≡ bits_after xs ++ ys
  unfolding bits_after
  cut = drop-append-le (length xs / 8 * 8) xs ys (omega arith)

  count : length (xs ++ ys) / 8 ≡ length xs / 8 + length (bits_after xs ++ ys) / 8
  count = omega (arith, length-append xs ys, length-append (bits_after xs) ys, length-after xs)

  pub whole_append : whole_octets (xs ++ ys) ≡ whole_octets xs ++ whole_octets (bits_after xs ++ ys)
  unfolding whole_octets
  whole_append =
      ap (λ (k : ℕ). packed k (xs ++ ys)) count
      ∙ packed-add (length xs / 8) (length (bits_after xs ++ ys) / 8) (xs ++ ys)
      ∙ ap₂ (λ (a b : List ℕ). a ++ b) (packed-front (length xs / 8) xs ys (omega arith)) (ap (packed (length (bits_after xs ++ ys) / 8)) cut)

  pub after-append : bits_after (xs ++ ys) ≡ bits_after (bits_after xs ++ ys)
  unfolding bits_after
  after-append =
      let k : length (xs ++ ys) / 8 * 8 ≡ length xs / 8 * 8 + length (bits_after xs ++ ys) / 8 * 8 = omega (arith, count) in
      ap (λ (j : ℕ). drop j (xs ++ ys)) k
      ∙ sym (drop-drop (length (bits_after xs ++ ys) / 8 * 8) (length xs / 8 * 8) (xs ++ ys))
      ∙ ap (drop (length (bits_after xs ++ ys) / 8 * 8)) cut

-- the bits of the whole octets, then the bits after them, are all of the bits
pub together : (bs : List Bool) → line_bits (whole_octets bs) ++ bits_after bs ≡ bs
unfolding whole_octets bits_after
together bs =
    ap (λ (x : List Bool). x ++ drop (length bs / 8 * 8) bs) (line-packed (length bs / 8) bs (omega arith))
    ∙ take-append-drop (length bs / 8 * 8) bs

-- octets and fewer than eight bits after them
pub whole-line : (os : List ℕ) (w : List Bool) → Octets os → length w < 8 → whole_octets (line_bits os ++ w) ≡ os
unfolding whole_octets
whole-line os w o l =
    let e : length (line_bits os ++ w) / 8 ≡ length os = omega (arith, length-append (line_bits os) w, length-line_bits os) in
    ap (λ (k : ℕ). packed k (line_bits os ++ w)) e ∙ repack os w o

octets-take : (n : ℕ) (xs : List ℕ) → Octets xs → Octets (take n xs)
octets-take zero xs o = none
octets-take (suc n) [] none = none
octets-take (suc n) (x ∷ xs) (more l o) = more l (octets-take n xs o)

-- the whole octets among the first k bits of octets are those octets
pub whole-front : (k : ℕ) (xs : List ℕ) → Octets xs → k ≤ 8 * length xs → whole_octets (take k (line_bits xs)) ≡ take (k / 8) xs
unfolding whole_octets
whole-front k xs o h =
    let g : List Bool = take k (line_bits xs) in
    let l : length g ≡ k = length-take-le k (line_bits xs) (omega (arith, length-line_bits xs)) in
    let e : length (take (k / 8) xs) ≡ k / 8 = length-take-le (k / 8) xs (omega arith) in
    ap (λ (j : ℕ). packed (j / 8) g) l
    ∙ sym (packed-front (k / 8) g (drop k (line_bits xs)) (omega arith))
    ∙ ap (packed (k / 8)) (take-append-drop k (line_bits xs) ∙ ap line_bits (sym (take-append-drop (k / 8) xs)) ∙ line-append (take (k / 8) xs) (drop (k / 8) xs))
    ∙ ap (λ (j : ℕ). packed j (line_bits (take (k / 8) xs) ++ line_bits (drop (k / 8) xs))) (sym e)
    ∙ repack (take (k / 8) xs) (line_bits (drop (k / 8) xs)) (octets-take (k / 8) xs o)
