-- The rows: each is that of its run and octet, and what its three numbers say.
use Prim.Native.Nat.{ℕ, ◌+◌, ◌*◌, ◌/◌, ◌%◌, ◌≤◌, ◌<◌, min}
use mathlib.Core.Path.{◌≡◌, refl, sym, ap, ◌∙◌}
use mathlib.Core.Bool.{Bool, true, false, not, ◌&&◌, and_assoc}
use mathlib.Core.List.{List, [], ◌∷◌, ◌++◌}
use native.Mathlib.Nat.{lt_of_lt_of_le, pow-le-pow_right}
use native.Mathlib.Omega.{arith}
use lib.Dec.{eqb}
use lib.ListN.{length, get_or, length-append}
use Rattle.bits.specs.Octets.{bits_of, octet_of}
use Rattle.bits.proofs.Digits.{length-bits_of, octet_of-lt}
use Rattle.bits.proofs.Machines.{run-append, outs-append}
use Rattle.std.proofs.lemmas.Bool.{and_from}
use Rattle.fcs.proofs.Tables.{pair-at}
use Rattle.octets.specs.Rows.{run_next, kept_of, run_over, kept, plain, row_of, row_table}
use Rattle.octets.specs.Plain.{EachRow}
use Rattle.octets.proofs.Plain.{kept-few}

-- ---- a row's place
pub each_row : EachRow
unfolding row_table
each_row r x h k = pair-at row_of row_table 2048 r x refl k (omega arith)

-- ---- bits in two parts
pub plain-append : (r : ℕ) (xs ys : List Bool) → plain r (xs ++ ys) ≡ plain r xs && plain (run_over r xs) ys
unfolding plain
plain-append r [] ys = refl
plain-append r (b ∷ xs) ys =
    ap (λ (t : Bool). not (eqb r 6) && t) (plain-append (run_next r b) xs ys) ∙ sym (and_assoc (not (eqb r 6)) (plain (run_next r b) xs) (plain (run_over (run_next r b) xs) ys))

pub plain-joined : (r : ℕ) (xs ys : List Bool) → plain r xs ≡ true → plain (run_over r xs) ys ≡ true → plain r (xs ++ ys) ≡ true
plain-joined r xs ys p q = plain-append r xs ys ∙ and_from (plain r xs) (plain (run_over r xs) ys) p q

pub kept_append : (r : ℕ) (xs ys : List Bool) → kept r (xs ++ ys) ≡ kept r xs ++ kept (run_over r xs) ys
kept_append r xs ys = outs-append run_next kept_of xs ys r

pub run-over-append : (r : ℕ) (xs ys : List Bool) → run_over r (xs ++ ys) ≡ run_over (run_over r xs) ys
run-over-append r xs ys = run-append run_next xs ys r

-- ---- the run
next_small : (r : ℕ) (b : Bool) → run_next r b ≤ 7
next_small r true = omega arith
next_small r false = omega arith

pub run-over-small : (r : ℕ) (bs : List Bool) → r ≤ 7 → run_over r bs ≤ 7
run-over-small r [] h = h
run-over-small r (b ∷ bs) h = run-over-small (run_next r b) bs (next_small r b)

-- over as many bits as make a run of seven, the new run does not depend on the old one
run-over-same : (q r : ℕ) (bs : List Bool) → q ≤ 7 → r ≤ 7 → 7 ≤ q + length bs → 7 ≤ r + length bs → run_over q bs ≡ run_over r bs
run-over-same q r [] h k m n = omega arith
run-over-same q r (true ∷ bs) h k m n = run-over-same (min (q + 1) 7) (min (r + 1) 7) bs (omega arith) (omega arith) (omega arith) (omega arith)
run-over-same q r (false ∷ bs) h k m n = refl

-- no more bits are kept than read
pub kept-length : (r : ℕ) (bs : List Bool) → length (kept r bs) ≤ length bs
kept-length r [] = omega arith
kept-length r (b ∷ bs) =
    omega (arith, length-append (kept_of r b) (kept (run_next r b) bs), kept-few r b, kept-length (run_next r b) bs)

-- ---- a row's three numbers
three-numbers : (row v q n : ℕ) → row ≡ v + q * 256 + n * 65536 → v < 256 → q ≤ 7 → n ≤ 8
    → (row < 16777216) × (row % 256 ≡ v) × (row / 65536 ≡ n) × (row / 256 % 8 ≡ q) × (n ≤ 8)
three-numbers row v q n e h k m = omega arith

module _ (r x : ℕ) (h : r ≤ 7) (k : x < 256) where
  pub row-marked : plain r (bits_of 8 x) ≡ false → get_or row_table (r * 256 + x) 0 ≡ 16777216 + run_over r (bits_of 8 x) * 256
  unfolding row_of
  row-marked p = each_row r x (omega arith) k ∙ rw p

  row_made : plain r (bits_of 8 x) ≡ true
      → get_or row_table (r * 256 + x) 0 ≡ octet_of (kept r (bits_of 8 x)) + run_over r (bits_of 8 x) * 256 + length (kept r (bits_of 8 x)) * 65536
  unfolding row_of
  row_made p = each_row r x (omega arith) k ∙ rw p

  kept-eight : length (kept r (bits_of 8 x)) ≤ 8
  kept-eight = omega (arith, kept-length r (bits_of 8 x), length-bits_of 8 x)

  kept-octet : octet_of (kept r (bits_of 8 x)) < 256
  kept-octet = lt_of_lt_of_le (octet_of-lt (kept r (bits_of 8 x))) (pow-le-pow_right {n = 2} (omega arith) kept-eight)

  pub row_plain : plain r (bits_of 8 x) ≡ true
      → (get_or row_table (r * 256 + x) 0 < 16777216)
      × (get_or row_table (r * 256 + x) 0 % 256 ≡ octet_of (kept r (bits_of 8 x)))
      × (get_or row_table (r * 256 + x) 0 / 65536 ≡ length (kept r (bits_of 8 x)))
      × (get_or row_table (r * 256 + x) 0 / 256 % 8 ≡ run_over r (bits_of 8 x))
      × (length (kept r (bits_of 8 x)) ≤ 8)
  row_plain p = three-numbers _ _ _ _ (row_made p) kept-octet (run-over-small r (bits_of 8 x) h) kept-eight

  pub plain-of-row : get_or row_table (r * 256 + x) 0 < 16777216 → plain r (bits_of 8 x) ≡ true
  plain-of-row m = go (plain r (bits_of 8 x)) refl
    where
      go : (t : Bool) → plain r (bits_of 8 x) ≡ t → t ≡ true
      go true p = refl
      go false p = absurd (omega (arith, row-marked p))

-- the new run does not depend on the old one
pub run-of-octet : (r x : ℕ) → r ≤ 7 → run_over r (bits_of 8 x) ≡ run_over 0 (bits_of 8 x)
run-of-octet r x h =
    let l : length (bits_of 8 x) ≡ 8 = length-bits_of 8 x in
    run-over-same r 0 (bits_of 8 x) h (omega arith) (omega arith) (omega arith)

-- so it can be read in the row of the same octet after no ones, with or without a mark
marked-run : (row q : ℕ) → row ≡ 16777216 + q * 256 → q ≤ 7 → row / 256 % 8 ≡ q
marked-run row q e h = omega arith

pub run-of-first-row : (r x : ℕ) → r ≤ 7 → x < 256 → get_or row_table x 0 / 256 % 8 ≡ run_over r (bits_of 8 x)
run-of-first-row r x h k =
    let e : 0 * 256 + x ≡ x = omega arith in
    ap (λ (i : ℕ). get_or row_table i 0 / 256 % 8) (sym e) ∙ go (plain 0 (bits_of 8 x)) refl ∙ sym (run-of-octet r x h)
  where
    go : (t : Bool) → plain 0 (bits_of 8 x) ≡ t → get_or row_table (0 * 256 + x) 0 / 256 % 8 ≡ run_over 0 (bits_of 8 x)
    go true p = (row_plain 0 x (omega arith) k p).3
    go false p = marked-run _ _ (row-marked 0 x (omega arith) k p) (run-over-small 0 (bits_of 8 x) (omega arith))
