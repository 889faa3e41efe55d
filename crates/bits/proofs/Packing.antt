-- Bits packed into octets, and read out again.
use Prim.Native.Nat.{ℕ, zero, suc, ◌+◌, ◌*◌, ◌^◌, ◌≤◌, ◌<◌}
use mathlib.Core.Path.{◌≡◌, refl, sym, ap, ap₂, ◌∙◌}
use mathlib.Core.Bool.{Bool}
use mathlib.Core.List.{List, [], ◌∷◌, ◌++◌, append_assoc}
use native.Mathlib.Nat.{not-suc-le-zero, zero-add, suc-add}
use native.Mathlib.Decide.{dec_lt}
use native.Mathlib.Omega.{arith}
use lib.ListN.{length, take, drop, replicate, set, length-take, length-drop, take-append-drop}
use lib.Seq.{take_all, take-append-le, drop-append-le, take-append-add, length-take-le, take-nil, take_at, drop_at, drop-drop, take-add}
use lib.Pow.{pow_mono}
use Rattle.std.proofs.lemmas.List.{nil_from_length}
use Rattle.bits.specs.Octets.{bits_of, line_bits, octet_of, packed, Octets, none, more}
use Rattle.bits.proofs.Digits.{length-bits_of, bits_back, all_back, value-back, octet_of-lt}
use Rattle.bits.proofs.Lines.{length-line_bits}

pub length-packed : (n : ℕ) (g : List Bool) → length (packed n g) ≡ n
unfolding packed
length-packed zero g = refl
length-packed (suc n) g = ap suc (length-packed n (drop 8 g))

pub packed-nil : (n : ℕ) → packed n [] ≡ replicate n 0
unfolding packed octet_of
packed-nil zero = refl
packed-nil (suc n) = ap {B = List ℕ} (λ r. 0 ∷ r) (packed-nil n)

-- what is packed are octets
pub packed-octets : (n : ℕ) (g : List Bool) → Octets (packed n g)
unfolding packed
packed-octets zero g = none
packed-octets (suc n) g = more (small (take 8 g) (omega (arith, length-take 8 g))) (packed-octets n (drop 8 g))
  where
    small : (h : List Bool) → length h ≤ 8 → octet_of h < 256
    small h l =
        let p : 2 ^ length h ≤ 2 ^ 8 = pow_mono l in
        omega (arith, octet_of-lt h)

-- octets packed one after the other
pub packed-add : (n k : ℕ) (g : List Bool) → packed (n + k) g ≡ packed n g ++ packed k (drop (n * 8) g)
unfolding packed
packed-add zero k g = ap (λ (j : ℕ). packed j g) (zero-add k)
packed-add (suc n) k g =
    let e : 8 + n * 8 ≡ suc n * 8 = omega arith in
    let d : drop (n * 8) (drop 8 g) ≡ drop (suc n * 8) g = drop-drop (n * 8) 8 g ∙ ap (λ (j : ℕ). drop j g) e in
    ap (λ (j : ℕ). packed j g) (suc-add n k)
    ∙ ap {B = List ℕ} (λ r. octet_of (take 8 g) ∷ r) (packed-add n k (drop 8 g) ∙ ap (λ (r : List Bool). packed n (drop 8 g) ++ packed k r) d)

-- what stands past the octets does not matter
pub packed-front : (n : ℕ) (g h : List Bool) → n * 8 ≤ length g → packed n (g ++ h) ≡ packed n g
unfolding packed
packed-front zero g h l = refl
packed-front (suc n) g h l =
    ap₂ {C = List ℕ} (λ a b. a ∷ b) (ap octet_of (take-append-le 8 g h (omega arith)))
    (ap (packed n) (drop-append-le 8 g h (omega arith)) ∙ packed-front n (drop 8 g) h (omega (arith, length-drop 8 g)))

-- ---- what was packed is read back
unpack-small : (g rest : List Bool) → length g < 8 → take (length g) (bits_of 8 (octet_of (take 8 g)) ++ rest) ≡ g
unpack-small g rest h =
    take-append-le (length g) (bits_of 8 (octet_of (take 8 g))) rest (omega (arith, length-bits_of 8 (octet_of (take 8 g))))
    ∙ ap (λ (x : List Bool). take (length g) (bits_of 8 (octet_of x))) (take_all 8 g (omega arith))
    ∙ bits_back g 8 (omega arith)

unpack-large : (g rest : List Bool) → 8 ≤ length g → take (length (drop 8 g)) rest ≡ drop 8 g → take (length g) (bits_of 8 (octet_of (take 8 g)) ++ rest) ≡ g
unpack-large g rest h ih =
    let e : bits_of 8 (octet_of (take 8 g)) ≡ take 8 g = all_back 8 (take 8 g) (length-take-le 8 g h) in
    let l : length g ≡ length (take 8 g) + length (drop 8 g) = omega (arith, length-take-le 8 g h, length-drop 8 g) in
    ap (λ (x : List Bool). take (length g) (x ++ rest)) e
    ∙ ap (λ (n : ℕ). take n (take 8 g ++ rest)) l
    ∙ take-append-add (take 8 g) rest (length (drop 8 g))
    ∙ ap (λ (x : List Bool). take 8 g ++ x) ih
    ∙ take-append-drop 8 g

pub unpack : (n : ℕ) (g : List Bool) → length g ≤ 8 * n → take (length g) (line_bits (packed n g)) ≡ g
unfolding packed line_bits
unpack zero g h = take-nil (length g) ∙ sym (nil_from_length g (omega arith))
unpack (suc n) g h =
    elim (dec_lt (length g) 8) [
      | yes p ↦ unpack-small g (line_bits (packed n (drop 8 g))) p
      | no p ↦ unpack-large g (line_bits (packed n (drop 8 g))) (omega arith) (unpack n (drop 8 g) (omega (arith, length-drop 8 g)))
    ]

-- whole octets' bits
pub line-packed : (n : ℕ) (g : List Bool) → n * 8 ≤ length g → line_bits (packed n g) ≡ take (n * 8) g
unfolding packed line_bits
line-packed zero g h = refl
line-packed (suc n) g h =
    let e : 8 + n * 8 ≡ suc n * 8 = omega arith in
    ap₂ (λ (a b : List Bool). a ++ b) (all_back 8 (take 8 g) (length-take-le 8 g (omega arith))) (line-packed n (drop 8 g) (omega (arith, length-drop 8 g)))
    ∙ sym (take-add 8 (n * 8) g) ∙ ap (λ (j : ℕ). take j g) e

-- octets are what their bits pack to
pub repack : (xs : List ℕ) (h : List Bool) → Octets xs → packed (length xs) (line_bits xs ++ h) ≡ xs
unfolding packed line_bits
repack [] h none = refl
repack (x ∷ xs) h (more l o) =
    rw (append_assoc (bits_of 8 x) (line_bits xs) h)
    (ap₂ {C = List ℕ} (λ a b. a ∷ b)
    (ap octet_of (take_at (bits_of 8 x) (line_bits xs ++ h) 8 (length-bits_of 8 x)) ∙ value-back 8 x l)
    (ap (packed (length xs)) (drop_at (bits_of 8 x) (line_bits xs ++ h) 8 (length-bits_of 8 x)) ∙ repack xs h o))

-- ---- an area that holds k bits and is zero past them
pub held-length : (n k : ℕ) (area : List ℕ) → k ≤ 8 * n → area ≡ packed n (take k (line_bits area)) → length (take k (line_bits area)) ≡ k
held-length n k area h e =
    let l : length area ≡ n = ap length e ∙ length-packed n (take k (line_bits area)) in
    length-take-le k (line_bits area) (omega (arith, length-line_bits area))

-- zeros in the octets that hold bits leave zeros only
pub zero-front : (n i : ℕ) (g : List Bool) → length g ≤ 8 * i → i ≤ n → replicate i 0 ++ drop i (packed n g) ≡ packed n []
unfolding packed octet_of
zero-front n zero g h k = ap (packed n) (nil_from_length g (omega arith))
zero-front zero (suc i) g h k = absurd (not-suc-le-zero k)
zero-front (suc n) (suc i) g h k =
    ap {B = List ℕ} (λ r. 0 ∷ r) (zero-front n i (drop 8 g) (omega (arith, length-drop 8 g)) (omega arith))

-- eight bits at most stand in the first octet
pub zero-first : (n : ℕ) (g : List Bool) → length g ≤ 8 → set (packed (suc n) g) 0 0 ≡ packed (suc n) []
unfolding packed
zero-first n g h = zero-front (suc n) 1 g (omega arith) (omega arith)
