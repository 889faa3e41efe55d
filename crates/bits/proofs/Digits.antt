-- A number and its bits.
use Prim.Native.Nat.{ℕ, zero, suc, ◌+◌, ◌-◌, ◌*◌, ◌/◌, ◌%◌, ◌^◌, ◌≤◌, ◌<◌}
use mathlib.Core.Path.{◌≡◌, refl, sym, ap, ap₂, ◌∙◌}
use mathlib.Core.Bool.{Bool, true, false}
use mathlib.Core.List.{List, [], ◌∷◌, ◌++◌}
use native.Mathlib.Nat.{pow-suc, not-suc-le-zero, div-one, zero-add, suc-add}
use native.Mathlib.Numerals.{add-one, one-add}
use native.Mathlib.Omega.{arith}
use lib.ListN.{length, take}
use lib.Seq.{take_all}
use lib.Pow.{shr-shr, field, mod-mod-pow}
use lib.Dec.{eqb}
use borrow.Author.Tests.{eq-eqb, ne_eqb}
use Rattle.std.proofs.lemmas.List.{length_push}
use Rattle.bits.specs.Octets.{odd, bits_of, worth, octet_of}

pub length-bits_of : (n x : ℕ) → length (bits_of n x) ≡ n
unfolding bits_of
length-bits_of zero x = refl
length-bits_of (suc n) x = ap suc (length-bits_of n (x / 2))

pub worth-lt : (b : Bool) → worth b < 2
worth-lt true = omega arith
worth-lt false = omega arith

pub octet_of-lt : (g : List Bool) → octet_of g < 2 ^ length g
unfolding octet_of
octet_of-lt [] = omega arith
octet_of-lt (x ∷ g) = omega (arith, octet_of-lt g, worth-lt x, pow-suc 2 (length g))

-- the first of n bits
pub bits-cons : (n x : ℕ) → 0 < n → bits_of n x ≡ odd x ∷ bits_of (n - 1) (x / 2)
unfolding bits_of
bits-cons n x h =
    let e : n ≡ suc (n - 1) = omega arith in
    ap (λ (k : ℕ). bits_of k x) e

-- ---- there and back
worth-test : (b : Bool) (y : ℕ) → odd (worth b + y * 2) ≡ b
worth-test true y = eq-eqb ((1 + y * 2) % 2) 1 (omega arith)
worth-test false y = ne_eqb ((0 + y * 2) % 2) 1 (omega arith)

worth_half : (b : Bool) (y : ℕ) → (worth b + y * 2) / 2 ≡ y
worth_half true y = omega arith
worth_half false y = omega arith

-- bits that make a number are its bits
pub bits_back : (g : List Bool) (n : ℕ) → length g ≤ n → take (length g) (bits_of n (octet_of g)) ≡ g
unfolding bits_of octet_of
bits_back [] n h = refl
bits_back (x ∷ g) zero h = absurd (not-suc-le-zero h)
bits_back (x ∷ g) (suc n) h =
    rw (worth-test x (octet_of g), worth_half x (octet_of g)) (ap {B = List Bool} (λ r. x ∷ r) (bits_back g n (omega arith)))

pub all_back : (n : ℕ) (g : List Bool) → length g ≡ n → bits_of n (octet_of g) ≡ g
all_back n g e =
    sym (take_all (length g) (bits_of n (octet_of g)) (omega (arith, length-bits_of n (octet_of g)))) ∙ bits_back g n (omega arith)

worth-digit : (d : ℕ) → d < 2 → worth (eqb d 1) ≡ d
worth-digit zero h = refl
worth-digit (suc zero) h = refl
worth-digit (suc (suc d)) h = absurd (omega arith)

-- a number's bits make the number
pub value-back : (n x : ℕ) → x < 2 ^ n → octet_of (bits_of n x) ≡ x
unfolding bits_of octet_of
value-back zero x h = omega arith
value-back (suc n) x h =
    let p : 2 ^ suc n ≡ 2 ^ n * 2 = pow-suc 2 n in
    let i : octet_of (bits_of n (x / 2)) ≡ x / 2 = value-back n (x / 2) (omega arith) in
    let w : worth (odd x) ≡ x % 2 = worth-digit (x % 2) (omega arith) in
    omega arith

-- ---- parts of a number
-- its n low bits are those of its remainder
pub bits-low : (n x : ℕ) → bits_of n (x % 2 ^ n) ≡ bits_of n x
unfolding bits_of
bits-low zero x = refl
bits-low (suc n) x = ap₂ {C = List Bool} (λ (d : ℕ) bs. eqb d 1 ∷ bs) lowest (ap (bits_of n) rest ∙ bits-low n (x / 2))
  where
    lowest : x % 2 ^ suc n % 2 ≡ x % 2
    lowest = ap (λ (j : ℕ). x % 2 ^ j % 2) (sym (add-one n)) ∙ mod-mod-pow x n 1

    rest : x % 2 ^ suc n / 2 ≡ x / 2 % 2 ^ n
    rest = ap (λ (j : ℕ). x % 2 ^ j / 2) (sym (add-one n)) ∙ field x n 1

-- low bits, then those above them
pub bits-more : (n k x : ℕ) → bits_of n x ++ bits_of k (x / 2 ^ n) ≡ bits_of (n + k) x
unfolding bits_of
bits-more zero k x = ap₂ bits_of (sym (zero-add k)) (div-one x)
bits-more (suc n) k x =
    ap {B = List Bool} (λ bs. odd x ∷ bs)
    (ap (λ (y : ℕ). bits_of n (x / 2) ++ bits_of k y) (sym (shr-shr x 1 n ∙ ap (λ (i : ℕ). x / 2 ^ i) (one-add n)))
    ∙ bits-more n k (x / 2))
    ∙ ap (λ (j : ℕ). bits_of j x) (sym (suc-add n k))

-- ---- one bit more above
pub octet_of-snoc : (g : List Bool) (b : Bool) → octet_of (g ++ (b ∷ [])) ≡ octet_of g + worth b * 2 ^ length g
unfolding octet_of
octet_of-snoc [] true = refl
octet_of-snoc [] false = refl
octet_of-snoc (x ∷ g) true = omega (arith, octet_of-snoc g true, pow-suc 2 (length g))
octet_of-snoc (x ∷ g) false = omega (arith, octet_of-snoc g false)

pub snoc-length : (g : List Bool) (b : Bool) → length (g ++ (b ∷ [])) ≡ length g + 1
snoc-length = length_push
