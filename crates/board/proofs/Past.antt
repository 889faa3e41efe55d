-- Octets that are zero past their first bits.
use Prim.Native.Nat.{ℕ, zero, suc, ◌+◌, ◌-◌, ◌*◌, ◌/◌, ◌%◌, ◌^◌, ◌≤◌, ◌<◌}
use mathlib.Core.Path.{◌≡◌, refl, sym, ap, ap₂, ◌∙◌}
use mathlib.Core.Bool.{Bool, true, false, not, ◌&&◌, and_assoc, false≢true}
use mathlib.Core.List.{List, [], ◌∷◌, ◌++◌, append-nil}
use native.Mathlib.Nat.{pow-suc, sub-zero, div-lt_iff_lt-mul}
use native.Mathlib.Decide.{dec_lt}
use native.Mathlib.Omega.{arith}
use lib.Bits.{bit_or}
use lib.Dec.{eqb}
use lib.ListN.{length, get_or, take, drop, length-drop, drop_of_length-le, take-append-drop}
use lib.Seq.{append_snoc, take_all, drop-nil, drop_at, get_or-drop}
use lib.Pow.{pow-add, pow_pos, pow-lt}
use borrow.Author.Tests.{eq-eqb, ne_eqb, eqb-true, eqb-false}
use Rattle.bits.specs.Octets.{odd, bits_of, line_bits, octet_of, packed}
use Rattle.bits.proofs.Digits.{length-bits_of, bits-more, octet_of-lt}
use Rattle.bits.proofs.Lines.{line-drop}
use Rattle.bits.proofs.Packing.{repack}
use Rattle.bits.proofs.Gathering.{zero_in}
use Rattle.memory.specs.Lent.{zeros}
use Rattle.memory.proofs.Loops.{or-zero}
use Rattle.board.specs.Malformed.{no_ones, zero_past}
use Rattle.board.specs.Promises.{PastHolds, PackedPast}

no_ones-append : (xs ys : List Bool) → no_ones (xs ++ ys) ≡ no_ones xs && no_ones ys
unfolding no_ones
no_ones-append [] ys = refl
no_ones-append (x ∷ xs) ys = ap (λ (b : Bool). not x && b) (no_ones-append xs ys) ∙ sym (and_assoc (not x) (no_ones xs) (no_ones ys))

drop-append : (n : ℕ) (xs ys : List Bool) → drop n (xs ++ ys) ≡ drop n xs ++ drop (n - length xs) ys
drop-append n [] ys = rw (drop-nil {A = Bool} n, sub-zero n)
drop-append zero (x ∷ xs) ys =
    let e : 0 - suc (length xs) ≡ 0 = omega arith in
    ap {B = List Bool} (λ (k : ℕ). x ∷ (xs ++ drop k ys)) (sym e)
drop-append (suc n) (x ∷ xs) ys =
    let e : n - length xs ≡ suc n - suc (length xs) = omega arith in
    drop-append n xs ys ∙ ap (λ (k : ℕ). drop n xs ++ drop k ys) e

-- ---- one octet
no_ones-bits : (n x : ℕ) → x < 2 ^ n → no_ones (bits_of n x) ≡ eqb x 0
unfolding no_ones bits_of
no_ones-bits zero x h = sym (eq-eqb x 0 (omega arith))
no_ones-bits (suc n) x h = ap (λ (b : Bool). not (odd x) && b) (no_ones-bits n (x / 2) (omega (arith, pow-suc 2 n))) ∙ go (odd x) refl
  where
    go : (o : Bool) → odd x ≡ o → not o && eqb (x / 2) 0 ≡ eqb x 0
    go true o =
        let r : x % 2 ≡ 1 = eqb-true (x % 2) 1 o in
        sym (ne_eqb x 0 (λ z. omega arith))
    go false o =
        let r : x % 2 ≡ 1 → ⊥ = eqb-false (x % 2) 1 o in
        let two : x % 2 < 2 = omega arith in
        half (eqb x 0) refl
      where
        half : (z : Bool) → eqb x 0 ≡ z → eqb (x / 2) 0 ≡ eqb x 0
        half true e = let q : x ≡ 0 = eqb-true x 0 e in eq-eqb (x / 2) 0 (omega arith) ∙ sym e
        half false e =
            let q : x ≡ 0 → ⊥ = eqb-false x 0 e in
            let r : x % 2 ≡ 1 → ⊥ = eqb-false (x % 2) 1 o in
            ne_eqb (x / 2) 0 (λ w. q (omega arith)) ∙ sym e

bits-drop : (k n x : ℕ) → drop k (bits_of (k + n) x) ≡ bits_of n (x / 2 ^ k)
bits-drop k n x =
    ap (drop k) (sym (bits-more k n x)) ∙ drop_at (bits_of k x) (bits_of n (x / 2 ^ k)) k (length-bits_of k x)

none_above : (x bit : ℕ) → 8 ≤ bit → no_ones (drop bit (bits_of 8 x)) ≡ true
unfolding no_ones
none_above x bit h =
    let l : length (bits_of 8 x) ≤ bit = omega (arith, length-bits_of 8 x) in
    ap no_ones (drop_of_length-le (bits_of 8 x) l)

pub part-above : (x bit : ℕ) → x < 256 → bit < 8 → no_ones (drop bit (bits_of 8 x)) ≡ eqb (x / 2 ^ bit) 0
part-above x bit l h =
    let e : bit + (8 - bit) ≡ 8 = omega arith in
    ap (λ (k : ℕ). no_ones (drop bit (bits_of k x))) (sym e) ∙ ap no_ones (bits-drop bit (8 - bit) x) ∙ no_ones-bits (8 - bit) (x / 2 ^ bit) small
  where
    back : 8 - bit + bit ≡ 8
    back = omega arith

    small : x / 2 ^ bit < 2 ^ (8 - bit)
    small =
        let p : 2 ^ (8 - bit + bit) ≡ 2 ^ 8 = ap (λ (k : ℕ). 2 ^ k) back in
        (div-lt_iff_lt-mul (pow_pos bit)).1 (omega (arith, pow-add 2 (8 - bit) bit))

-- ---- one octet, and those after it
module _ (xs : List ℕ) (i n : ℕ) (h : i < length xs) where
  step : zero_past n (drop i xs) ≡ no_ones (drop n (bits_of 8 (get_or xs i 0))) && zero_past (n - 8) (drop (i + 1) xs)
  unfolding zero_past
  step =
      ap (λ (l : List Bool). no_ones (drop n l)) (line-drop xs i h)
      ∙ ap no_ones (drop-append n (bits_of 8 (get_or xs i 0)) (line_bits (drop (i + 1) xs)))
      ∙ no_ones-append (drop n (bits_of 8 (get_or xs i 0))) (drop (n - length (bits_of 8 (get_or xs i 0))) (line_bits (drop (i + 1) xs)))
      ∙ ap (λ (k : ℕ). no_ones (drop n (bits_of 8 (get_or xs i 0))) && no_ones (drop (n - k) (line_bits (drop (i + 1) xs)))) (length-bits_of 8 (get_or xs i 0))

  past-goes : no_ones (drop n (bits_of 8 (get_or xs i 0))) ≡ true → zero_past n (drop i xs) ≡ zero_past (n - 8) (drop (i + 1) xs)
  past-goes e = step ∙ ap (λ (b : Bool). b && zero_past (n - 8) (drop (i + 1) xs)) e

  octet-and-rest : get_or xs i 0 < 256 → n < 8 → zero_past n (drop i xs) ≡ eqb (get_or xs i 0 / 2 ^ n) 0 && zero_past 0 (drop (i + 1) xs)
  octet-and-rest l s =
      let e : n - 8 ≡ 0 = omega arith in
      step ∙ ap₂ (λ (a : Bool) (k : ℕ). a && zero_past k (drop (i + 1) xs)) (part-above (get_or xs i 0) n l s) e

past-ends : (xs : List ℕ) (i n : ℕ) → length xs ≤ i → zero_past n (drop i xs) ≡ true
unfolding zero_past no_ones line_bits
past-ends xs i n h = ap (λ (l : List ℕ). no_ones (drop n (line_bits l))) (drop_of_length-le xs h) ∙ ap no_ones (drop-nil {A = Bool} n)

-- whole octets of the first bits are passed over
octets-past : (k n : ℕ) (xs : List ℕ) → zero_past (k * 8 + n) xs ≡ zero_past n (drop k xs)
octets-past zero n xs = let e : zero * 8 + n ≡ n = omega arith in ap (λ (j : ℕ). zero_past j xs) e
octets-past (suc k) n [] = past-ends [] 0 (suc k * 8 + n) (omega arith) ∙ sym (past-ends [] (suc k) n (omega arith))
octets-past (suc k) n (x ∷ xs) =
    let e : suc k * 8 + n - 8 ≡ k * 8 + n = omega arith in
    past-goes (x ∷ xs) 0 (suc k * 8 + n) (omega arith) (none_above x (suc k * 8 + n) (omega arith)) ∙ ap (λ (j : ℕ). zero_past j xs) e ∙ octets-past k n xs

-- no bit of octets is a one where all are zero, and nowhere else
zeros-past : (xs : List ℕ) → ((i : ℕ) → get_or xs i 0 < 256) → zero_past 0 xs ≡ zeros xs
unfolding zeros
zeros-past [] l = past-ends [] 0 0 (omega arith)
zeros-past (x ∷ xs) l =
    let e : x / 2 ^ 0 ≡ x = omega arith in
    octet-and-rest (x ∷ xs) 0 0 (omega arith) (l 0) (omega arith) ∙ ap₂ (λ (y : ℕ) (b : Bool). eqb y 0 && b) e (zeros-past xs (λ i. l (suc i)))

-- ---- the octet that the first bits end in
module _ (xs : List ℕ) (n : ℕ) where
  at-octet : zero_past n xs ≡ zero_past (n % 8) (drop (n / 8) xs)
  at-octet = let e : n ≡ n / 8 * 8 + n % 8 = omega arith in ap (λ (j : ℕ). zero_past j xs) e ∙ octets-past (n / 8) (n % 8) xs

  pub all-taken : length xs ≤ n / 8 → zero_past n xs ≡ true
  all-taken h = at-octet ∙ past-ends xs (n / 8) (n % 8) h

  -- that octet's bits after them, or-ed with the octets after it, decide
  pub or-decides : (rest : ℕ) → n / 8 < length xs → ((i : ℕ) → get_or xs i 0 < 256) → eqb rest 0 ≡ zeros (drop (n / 8 + 1) xs)
      → eqb (bit_or (get_or xs (n / 8) 0 / 2 ^ (n % 8)) rest) 0 ≡ zero_past n xs
  or-decides rest h l e =
      let after : (i : ℕ) → get_or (drop (n / 8 + 1) xs) i 0 < 256 = λ i. rw get_or-drop (l (n / 8 + 1 + i)) in
      or-zero (get_or xs (n / 8) 0 / 2 ^ (n % 8)) rest
      ∙ ap (λ (b : Bool). eqb (get_or xs (n / 8) 0 / 2 ^ (n % 8)) 0 && b) (e ∙ sym (zeros-past (drop (n / 8 + 1) xs) after))
      ∙ sym (at-octet ∙ octet-and-rest xs (n / 8) (n % 8) h (l (n / 8)) (omega arith))

-- ---- an area that is zero past n bits is the packing of those bits
packed-zeros : (k : ℕ) (z g : List Bool) → no_ones z ≡ true → packed k (g ++ z) ≡ packed k g
unfolding no_ones
packed-zeros k [] g e = ap (packed k) (append-nil g)
packed-zeros k (true ∷ z) g e = absurd (false≢true e)
packed-zeros k (false ∷ z) g e = ap (packed k) (sym (append_snoc g false z)) ∙ packed-zeros k z (g ++ (false ∷ [])) e ∙ zero_in k g

pub past-holds : PastHolds
unfolding zero_past
past-holds n area o e =
    sym (repack area [] o)
    ∙ ap (packed (length area)) (append-nil (line_bits area) ∙ sym (take-append-drop n (line_bits area)))
    ∙ packed-zeros (length area) (drop n (line_bits area)) (take n (line_bits area)) e

-- ---- the area that holds bits is zero past them
no_ones_lem : (g : List Bool) → no_ones (drop (length g) (bits_of 8 (octet_of (take 8 g)))) ≡ true
no_ones_lem g =
    elim (dec_lt (length g) 8) [
      | yes p ↦
          let e : octet_of (take 8 g) ≡ octet_of g = ap octet_of (take_all 8 g (omega arith)) in
          let w : 2 ^ length g < 2 ^ 8 = pow-lt p in
          let low : octet_of (take 8 g) < 1 * 2 ^ length g = omega (arith, octet_of-lt g) in
          let none : octet_of (take 8 g) / 2 ^ length g < 1 = (div-lt_iff_lt-mul (pow_pos (length g))).1 low in
          part-above (octet_of (take 8 g)) (length g) (omega arith) p ∙ eq-eqb (octet_of (take 8 g) / 2 ^ length g) 0 (omega arith)
      | no p ↦ none_above (octet_of (take 8 g)) (length g) (omega arith)
    ]

pub packed-past : PackedPast
unfolding packed
packed-past zero g = past-ends [] 0 (length g) (omega arith)
packed-past (suc n) g =
    past-goes (packed (suc n) g) 0 (length g) (omega arith) (no_ones_lem g)
    ∙ ap (λ (k : ℕ). zero_past k (packed n (drop 8 g))) (sym (length-drop 8 g)) ∙ packed-past n (drop 8 g)
