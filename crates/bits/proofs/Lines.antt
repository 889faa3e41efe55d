-- Octets and the bits of the line.
use Prim.Native.Nat.{ℕ, zero, suc, ◌+◌, ◌*◌, ◌<◌}
use mathlib.Core.Path.{◌≡◌, refl, sym, ap, ◌∙◌}
use mathlib.Core.Bool.{Bool}
use mathlib.Core.List.{List, [], ◌∷◌, ◌++◌, append_assoc}
use native.Mathlib.Numerals.{add-one}
use native.Mathlib.Omega.{arith}
use lib.ListN.{length, get_or, take, drop, length-append}
use lib.Seq.{drop-cons, take-nil, take-append-add}
use Rattle.bits.specs.Octets.{bits_of, line_bits, Octets, none, more}
use Rattle.bits.proofs.Digits.{length-bits_of}

pub length-line_bits : (xs : List ℕ) → length (line_bits xs) ≡ 8 * length xs
unfolding line_bits
length-line_bits [] = refl
length-line_bits (x ∷ xs) = omega (arith, length-append (bits_of 8 x) (line_bits xs), length-bits_of 8 x, length-line_bits xs)

pub line-append : (xs ys : List ℕ) → line_bits (xs ++ ys) ≡ line_bits xs ++ line_bits ys
unfolding line_bits
line-append [] ys = refl
line-append (x ∷ xs) ys =
    ap (λ (l : List Bool). bits_of 8 x ++ l) (line-append xs ys) ∙ sym (append_assoc (bits_of 8 x) (line_bits xs) (line_bits ys))

pub line-cons : (x : ℕ) (xs : List ℕ) → line_bits (x ∷ xs) ≡ bits_of 8 x ++ line_bits xs
unfolding line_bits
line-cons x xs = refl

-- the octet at i comes first in what is left from i on
pub line-drop : (xs : List ℕ) (i : ℕ) → i < length xs → line_bits (drop i xs) ≡ bits_of 8 (get_or xs i 0) ++ line_bits (drop (i + 1) xs)
line-drop xs i h =
    ap line_bits (drop-cons xs i 0 h) ∙ line-cons (get_or xs i 0) (drop (suc i) xs)
    ∙ ap (λ (k : ℕ). bits_of 8 (get_or xs i 0) ++ line_bits (drop k xs)) (sym (add-one i))

-- the bits of the first octets are the first bits
pub line-take : (n : ℕ) (xs : List ℕ) → line_bits (take n xs) ≡ take (n * 8) (line_bits xs)
unfolding line_bits
line-take zero xs = refl
line-take (suc n) [] = sym (take-nil (suc n * 8))
line-take (suc n) (x ∷ xs) =
    let e : suc n * 8 ≡ length (bits_of 8 x) + n * 8 = omega (arith, length-bits_of 8 x) in
    ap (λ (l : List Bool). bits_of 8 x ++ l) (line-take n xs) ∙ sym (ap (λ (j : ℕ). take j (bits_of 8 x ++ line_bits xs)) e ∙ take-append-add (bits_of 8 x) (line_bits xs) (n * 8))

pub octets-append : (xs ys : List ℕ) → Octets xs → Octets ys → Octets (xs ++ ys)
octets-append [] ys none q = q
octets-append (x ∷ xs) ys (more h p) q = more h (octets-append xs ys p q)
