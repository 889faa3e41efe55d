-- The check is linear: what the register holds and what is fed can be taken apart.
use mathlib.Core.Path.{◌≡◌, refl, sym, ap, ap₂, ◌∙◌}
use mathlib.Core.Bool.{Bool, true, false}
use mathlib.Core.List.{List, [], ◌∷◌}
use Prim.Native.Nat.{ℕ, zero, suc, ◌+◌, ◌/◌, ◌%◌, ◌^◌, ◌<◌}
use native.Mathlib.Nat.{div-one, mod-lt, mod-mod, div-eq_of_lt}
use native.Mathlib.Numerals.{one-add}
use native.Mathlib.Omega.{arith}
use lib.Dec.{eqb}
use lib.ListN.{length, replicate, length-replicate, replicate-append-replicate}
use lib.Pow.{pow_pos, shr-shr}
use lib.Bits.{bit_xor, xor_assoc, differ, xor_comm, xor_lt, xor_zero_r, xor_mod, xor_shr}
use Rattle.bits.specs.Octets.{odd, bits_of}
use Rattle.bits.proofs.Machines.{run-append}
use Rattle.bits.proofs.Digits.{bits-low}
use Rattle.fcs.specs.Check.{generator, differs, added, check_bit, check_bits}
use Rattle.fcs.specs.Table.{zeros}
use Rattle.fcs.proofs.Xor.{xor_low, xor-half, twice-left, twice-right}

-- x's bits, lowest first, each turned where bs has a one
abbrev pub mixed : ℕ → List Bool → List Bool
mixed x [] = []
mixed x (b ∷ bs) = differs (odd x) b ∷ mixed (x / 2) bs

digit : (d e : ℕ) → d < 2 → e < 2 → eqb (differ d e) 1 ≡ differs (eqb d 1) (eqb e 1)
digit zero zero p q = refl
digit zero (suc zero) p q = refl
digit (suc zero) zero p q = refl
digit (suc zero) (suc zero) p q = refl
digit zero (suc (suc e)) p q = absurd (omega arith)
digit (suc zero) (suc (suc e)) p q = absurd (omega arith)
digit (suc (suc d)) e p q = absurd (omega arith)

odd-xor : (a b : ℕ) → odd (bit_xor a b) ≡ differs (odd a) (odd b)
odd-xor a b = ap (λ (d : ℕ). eqb d 1) (xor_low a b) ∙ digit (a % 2) (b % 2) (omega arith) (omega arith)

cancel : (p q b : Bool) → differs (differs p q) (differs p b) ≡ differs q b
cancel true true true = refl
cancel true true false = refl
cancel true false true = refl
cancel true false false = refl
cancel false true true = refl
cancel false true false = refl
cancel false false true = refl
cancel false false false = refl

added-xor : (f : Bool) (a b : ℕ) → added f (bit_xor a b) ≡ bit_xor a (added f b)
added-xor true a b = xor_assoc a b generator
added-xor false a b = refl

-- one bit: the part x of the register only moves down, and its lowest bit is taken off the bit that is fed
bit-linear : (x y : ℕ) (b : Bool) → check_bit (bit_xor x y) (differs (odd x) b) ≡ bit_xor (x / 2) (check_bit y b)
bit-linear x y b =
    ap₂ added (ap (λ (p : Bool). differs p (differs (odd x) b)) (odd-xor x y) ∙ cancel (odd x) (odd y) b) (xor-half x y)
    ∙ added-xor (differs (odd y) b) (x / 2) (y / 2)

pub bits-linear : (bs : List Bool) (x y : ℕ) → check_bits (bit_xor x y) (mixed x bs) ≡ bit_xor (x / 2 ^ length bs) (check_bits y bs)
bits-linear [] x y = ap (λ (n : ℕ). bit_xor n y) (sym (div-one x))
bits-linear (b ∷ bs) x y =
    ap (λ (r : ℕ). check_bits r (mixed (x / 2) bs)) (bit-linear x y b)
    ∙ bits-linear bs (x / 2) (check_bit y b)
    ∙ ap (λ (n : ℕ). bit_xor n (check_bits (check_bit y b) bs)) (shr-shr x 1 (length bs) ∙ ap (λ (k : ℕ). x / 2 ^ k) (one-add (length bs)))

pub bits-xor : (k x y : ℕ) → bits_of k (bit_xor x y) ≡ mixed x (bits_of k y)
unfolding bits_of
bits-xor zero x y = refl
bits-xor (suc k) x y = ap₂ {C = List Bool} (λ b bs. b ∷ bs) (odd-xor x y) (ap (bits_of k) (xor-half x y) ∙ bits-xor k (x / 2) (y / 2))

-- ---- zero bits: registers added take them as each alone, added
fall-xor : (p q : Bool) (a b : ℕ)
    → added (differs (differs p q) false) (bit_xor a b) ≡ bit_xor (added (differs p false) a) (added (differs q false) b)
fall-xor true true a b =
    sym (ap (bit_xor a) (twice-left generator b))
    ∙ sym (xor_assoc a generator (bit_xor generator b))
    ∙ ap (bit_xor (bit_xor a generator)) (xor_comm generator b)
fall-xor true false a b = xor_assoc a b generator ∙ ap (bit_xor a) (xor_comm b generator) ∙ sym (xor_assoc a generator b)
fall-xor false true a b = xor_assoc a b generator
fall-xor false false a b = refl

zero_xor : (x y : ℕ) → check_bit (bit_xor x y) false ≡ bit_xor (check_bit x false) (check_bit y false)
zero_xor x y =
    ap₂ added (ap (λ (p : Bool). differs p false) (odd-xor x y)) (xor-half x y) ∙ fall-xor (odd x) (odd y) (x / 2) (y / 2)

pub zeros-xor : (n x y : ℕ) → zeros n (bit_xor x y) ≡ bit_xor (zeros n x) (zeros n y)
zeros-xor zero x y = refl
zeros-xor (suc n) x y = ap (zeros n) (zero_xor x y) ∙ zeros-xor n (check_bit x false) (check_bit y false)

pub zeros-add : (m n r : ℕ) → zeros (m + n) r ≡ zeros n (zeros m r)
zeros-add m n r =
    sym (ap (check_bits r) (replicate-append-replicate m n false)) ∙ run-append check_bit (replicate m false) (replicate n false) r

-- ---- k bits at once. A register r in two parts: y, its k low bits turned where the value has ones, takes zero bits; the rest, x, has the value's bits lowest, and moves down
no_bits : (k : ℕ) → bits_of k 0 ≡ replicate k false
unfolding bits_of
no_bits zero = refl
no_bits (suc k) = ap {B = List Bool} (λ bs. false ∷ bs) (no_bits k)

module _ (k r value : ℕ) where
  abbrev y : ℕ
  y = bit_xor r value % 2 ^ k

  abbrev x : ℕ
  x = bit_xor r y

  low : x % 2 ^ k ≡ value % 2 ^ k
  low =
      xor_mod r y k
      ∙ ap (bit_xor (r % 2 ^ k)) (mod-mod (bit_xor r value) (2 ^ k) ∙ xor_mod r value k)
      ∙ twice-left (r % 2 ^ k) (value % 2 ^ k)

  high : x / 2 ^ k ≡ r / 2 ^ k
  high = xor_shr r y k ∙ ap (bit_xor (r / 2 ^ k)) (div-eq_of_lt (mod-lt (bit_xor r value) (pow_pos k))) ∙ xor_zero_r (r / 2 ^ k)

  fed : bits_of k value ≡ mixed x (replicate k false)
  fed =
      sym (bits-low k value)
      ∙ ap (bits_of k) (sym low)
      ∙ bits-low k x
      ∙ ap (bits_of k) (sym (xor_zero_r x))
      ∙ bits-xor k x 0
      ∙ ap (mixed x) (no_bits k)

-- k bits of a value: the register moves down by k, and what k zero bits make of y is added
pub block-zeros : (k r value : ℕ) → check_bits r (bits_of k value) ≡ bit_xor (r / 2 ^ k) (zeros k (bit_xor r value % 2 ^ k))
block-zeros k r value =
    ap₂ check_bits (sym (twice-right r (y k r value))) (fed k r value)
    ∙ bits-linear (replicate k false) (x k r value) (y k r value)
    ∙ ap (λ (n : ℕ). bit_xor n (zeros k (y k r value)))
    (ap (λ (n : ℕ). x k r value / 2 ^ n) (length-replicate k false) ∙ high k r value)

-- the register stays within sixteen bits
added-lt : (f : Bool) (r : ℕ) → r < 2 ^ 16 → added f r < 2 ^ 16
added-lt true r h = xor_lt 16 r generator h (omega arith)
added-lt false r h = h

pub check-lt : (bs : List Bool) (r : ℕ) → r < 2 ^ 16 → check_bits r bs < 2 ^ 16
check-lt [] r h = h
check-lt (b ∷ bs) r h = check-lt bs (check_bit r b) (added-lt (differs (odd r) b) (r / 2) (omega arith))
