-- One bit more in an area of octets that holds some bits and is zero past them.
use Prim.Native.Nat.{ℕ, zero, suc, ◌+◌, ◌-◌, ◌*◌, ◌/◌, ◌%◌, ◌^◌, ◌≤◌, ◌<◌}
use mathlib.Core.Path.{◌≡◌, refl, sym, ap, ap₂, ◌∙◌}
use mathlib.Core.Bool.{Bool, true, false}
use mathlib.Core.List.{List, [], ◌∷◌, ◌++◌}
use native.Mathlib.Nat.{add_comm}
use native.Mathlib.Decide.{dec_lt}
use native.Mathlib.Omega.{arith}
use lib.Bits.{bit_or, or_shifted_r}
use lib.ListN.{length, get_or, take, drop, set, length-drop, drop_of_length-le}
use lib.Seq.{take_all, take-append-le, drop-append-le}
use Rattle.std.proofs.lemmas.Grind.{one_shifted}
use Rattle.bits.specs.Octets.{line_bits, worth, octet_of, packed}
use Rattle.bits.proofs.Digits.{octet_of-snoc, octet_of-lt, snoc-length}
use Rattle.bits.proofs.Packing.{held-length}

-- a short run with one more bit: its first octet, and what is after it
first-snoc : (g : List Bool) (b : Bool) → length g < 8 → octet_of (take 8 (g ++ (b ∷ []))) ≡ octet_of (take 8 g) + worth b * 2 ^ length g
first-snoc g b h =
    ap octet_of (take_all 8 (g ++ (b ∷ [])) (omega (arith, snoc-length g b))) ∙ octet_of-snoc g b
    ∙ ap (λ (x : List Bool). octet_of x + worth b * 2 ^ length g) (sym (take_all 8 g (omega arith)))

rest-snoc : (g : List Bool) (b : Bool) → length g < 8 → drop 8 (g ++ (b ∷ [])) ≡ drop 8 g
rest-snoc g b h =
    let p : length (g ++ (b ∷ [])) ≤ 8 = omega (arith, snoc-length g b) in
    let q : length g ≤ 8 = omega arith in
    drop_of_length-le (g ++ (b ∷ [])) p ∙ sym (drop_of_length-le g q)

first-or : (g : List Bool) → length g < 8 → bit_or (octet_of (take 8 g)) (2 ^ length g) ≡ octet_of (take 8 g) + 1 * 2 ^ length g
first-or g h =
    let e : octet_of (take 8 g) ≡ octet_of g = ap octet_of (take_all 8 g (omega arith)) in
    let l : octet_of (take 8 g) < 2 ^ length g = omega (arith, octet_of-lt g) in
    let o : bit_or (octet_of (take 8 g)) (1 * 2 ^ length g) ≡ 1 * 2 ^ length g + octet_of (take 8 g) = or_shifted_r 1 (length g) (octet_of (take 8 g)) l in
    let k : 1 * 2 ^ length g ≡ 2 ^ length g = omega arith in
    ap (bit_or (octet_of (take 8 g))) (sym k) ∙ o ∙ add_comm (1 * 2 ^ length g) (octet_of (take 8 g))

-- a one goes in at the place that the bits' number gives, and the rest stays
abbrev With-one : ℕ → List Bool → Type 0
With-one n g = packed n (g ++ (true ∷ [])) ≡ set (packed n g) (length g / 8) (bit_or (get_or (packed n g) (length g / 8) 0) (2 ^ (length g % 8)))

one-small : (n : ℕ) (g : List Bool) → length g < 8 → With-one (suc n) g
unfolding packed
one-small n g h =
    let q : length g / 8 ≡ 0 = omega arith in
    let r : length g % 8 ≡ length g = omega arith in
    rw (q, r) (ap₂ {C = List ℕ} (λ a b. a ∷ b) (first-snoc g true h ∙ sym (first-or g h)) (ap (packed n) (rest-snoc g true h)))

one-large : (n : ℕ) (g : List Bool) → 8 ≤ length g → With-one n (drop 8 g) → With-one (suc n) g
unfolding packed
one-large n g h ih =
    let l : length (drop 8 g) ≡ length g - 8 = length-drop 8 g in
    let q : length g / 8 ≡ suc (length (drop 8 g) / 8) = omega arith in
    let r : length g % 8 ≡ length (drop 8 g) % 8 = omega arith in
    rw (q, r)
    (ap₂ {C = List ℕ} (λ a b. a ∷ b) (ap octet_of (take-append-le 8 g (true ∷ []) h)) (ap (packed n) (drop-append-le 8 g (true ∷ []) h) ∙ ih))

one_in : (n : ℕ) (g : List Bool) → length g < 8 * n → With-one n g
one_in zero g h = absurd (omega arith)
one_in (suc n) g h =
    elim (dec_lt (length g) 8) [
      | yes p ↦ one-small n g p
      | no p ↦ one-large n g (omega arith) (one_in n (drop 8 g) (omega (arith, length-drop 8 g)))
    ]

-- a zero changes nothing
pub zero_in : (n : ℕ) (g : List Bool) → packed n (g ++ (false ∷ [])) ≡ packed n g
unfolding packed
zero_in zero g = refl
zero_in (suc n) g =
    elim (dec_lt (length g) 8) [
      | yes p ↦ ap₂ {C = List ℕ} (λ a b. a ∷ b) (first-snoc g false p ∙ (omega arith)) (ap (packed n) (rest-snoc g false p))
      | no p ↦ ap₂ {C = List ℕ} (λ a b. a ∷ b) (ap octet_of (take-append-le 8 g (false ∷ []) (omega arith)))
          (ap (packed n) (drop-append-le 8 g (false ∷ []) (omega arith)) ∙ zero_in n (drop 8 g))
    ]

-- the same of an area of n octets that holds k bits, in the code's operations
module _ (n k : ℕ) (area : List ℕ) (h : k < 8 * n) (e : area ≡ packed n (take k (line_bits area))) where
  pub put_one :
      set area (k / 8) (bit_or (get_or area (k / 8) 0) (1 * 2 ^ (k % 8) % 256)) ≡ packed n (take k (line_bits area) ++ (true ∷ []))
  put_one =
      let g : List Bool = take k (line_bits area) in
      let l : length g ≡ k = held-length n k area (omega arith) e in
      let q : set area (k / 8) (bit_or (get_or area (k / 8) 0) (2 ^ (k % 8))) ≡ set (packed n g) (length g / 8) (bit_or (get_or (packed n g) (length g / 8) 0) (2 ^ (length g % 8))) =
      ap₂ (λ (x : List ℕ) (i : ℕ). set x (i / 8) (bit_or (get_or x (i / 8) 0) (2 ^ (i % 8)))) e (sym l) in
      -- the code's `1 << k % 8` of an octet
      rw (one_shifted (k % 8) 255 refl (omega arith)).0 (q ∙ sym (one_in n g (omega arith)))

  pub put-zero : area ≡ packed n (take k (line_bits area) ++ (false ∷ []))
  put-zero = e ∙ sym (zero_in n (take k (line_bits area)))
