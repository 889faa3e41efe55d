-- Octets passed by their rows, as both loops pass them: the run so far, and that no flag and no abort has ended.
use Prim.Native.Nat.{ℕ, ◌+◌, ◌*◌, ◌/◌, ◌%◌, ◌≤◌, ◌<◌}
use mathlib.Core.Path.{◌≡◌, refl, sym, ap, subst, ◌∙◌}
use mathlib.Core.Bool.{Bool, true}
use mathlib.Core.List.{List, [], ◌∷◌, ◌++◌, append-nil}
use native.Mathlib.Numerals.{add-one}
use native.Mathlib.Omega.{arith}
use lib.ListN.{length, get_or, take, length-append}
use lib.Seq.{take-suc, length-take-le}
use Rattle.bits.specs.Octets.{bits_of, line_bits, octet_of}
use Rattle.bits.proofs.Lines.{line-append, line-cons, length-line_bits}
use Rattle.octets.specs.Rows.{run_over, kept, plain, row_table}
use Rattle.octets.proofs.Rows.{row_plain, plain-of-row, run-of-first-row, plain-joined, kept_append, run-over-append, run-over-small, kept-length}

-- one octet more
line-next : (xs : List ℕ) (i : ℕ) → i < length xs → line_bits (take (i + 1) xs) ≡ line_bits (take i xs) ++ bits_of 8 (get_or xs i 0)
unfolding line_bits
line-next xs i h =
    ap (λ (k : ℕ). line_bits (take k xs)) (add-one i) ∙ ap line_bits (take-suc xs i 0 h) ∙ line-append (take i xs) (get_or xs i 0 ∷ [])
    ∙ ap (λ (l : List Bool). line_bits (take i xs) ++ l) (line-cons (get_or xs i 0) [] ∙ append-nil (bits_of 8 (get_or xs i 0)))

pub kept-room : (octets : List ℕ) (run at : ℕ) (g : List Bool) → at ≤ length octets
    → length (g ++ kept run (line_bits (take at octets))) ≤ length g + 8 * at
kept-room octets run at g h =
    let bs = line_bits (take at octets) in
    omega (arith, length-append g (kept run bs), kept-length run bs, length-line_bits (take at octets), length-take-le at octets h)

-- the octets before `at` are plain, and the rows of the run after them begin at `base`
pub record Passing (octets : List ℕ) (run base at : ℕ) : Type 0 where
  pub low : run ≤ 7
  pub few : at ≤ length octets
  pub is_plain : plain run (line_bits (take at octets)) ≡ true
  pub place : base ≡ run_over run (line_bits (take at octets)) * 256

-- the octet at `at` was read, and its row, in which no flag and no abort ends
pub record Read (octets : List ℕ) (base at x row first : ℕ) : Type 0 where
  pub more : at < length octets
  pub octet : get_or octets at 0 ≡ x
  pub small : x < 256
  pub told : get_or row_table (base + x) 0 ≡ row
  pub unmarked : row < 16777216
  pub told-run : get_or row_table x 0 ≡ first

pub read : (octets rows : List ℕ) (base at x : ℕ) → rows ≡ row_table → at < length octets → get_or octets at 0 < 256 → x ≡ get_or octets at 0
    → get_or rows (base + x) 0 < 16777216 → Read octets base at x (get_or rows (base + x) 0) (get_or rows x 0)
read octets rows base at x t h o e m =
    record { more = h; octet = sym e; small = omega arith; told = ap (λ (l : List ℕ). get_or l (base + x) 0) (sym t); unmarked = m; told-run = ap (λ (l : List ℕ). get_or l x 0) (sym t) }

-- what the row of an octet x after a run r says
pub record Says (r x row : ℕ) : Type 0 where
  pub is_plain : plain r (bits_of 8 x) ≡ true
  pub number : row % 256 ≡ octet_of (kept r (bits_of 8 x))
  pub many : row / 65536 ≡ length (kept r (bits_of 8 x))
  pub few : row / 65536 ≤ 8

says : (r x : ℕ) → r ≤ 7 → x < 256 → get_or row_table (r * 256 + x) 0 < 16777216 → Says r x (get_or row_table (r * 256 + x) 0)
says r x l h m =
    let p = plain-of-row r x l h m in
    let s = row_plain r x l h p in
    record { is_plain = p; number = s.1; many = s.2; few = omega (arith, s.2, s.4) }

module _ (octets : List ℕ) (run : ℕ) where
  pub none_passed : run ≤ 7 → Passing octets run (run * 256) 0
  unfolding plain line_bits
  none_passed h = record { low = h; few = omega arith; is_plain = refl; place = refl }

  module _ (base at : ℕ) (p : Passing octets run base at) where
    pub base-small : base ≤ 1792
    base-small = omega (arith, run-over-small run (line_bits (take at octets)) p.low, p.place)

    pub run-of-base : base / 256 ≡ run_over run (line_bits (take at octets))
    run-of-base = omega (arith, p.place)

    module _ (x row first : ℕ) (w : Read octets base at x row first) where
      pub row-says : Says (run_over run (line_bits (take at octets))) x row
      row-says =
          let r = run_over run (line_bits (take at octets)) in
          let e : get_or row_table (r * 256 + x) 0 ≡ row = ap (λ (b : ℕ). get_or row_table (b + x) 0) (sym p.place) ∙ w.told in
          subst (λ (v : ℕ). Says r x v) e
          (says r x (run-over-small run (line_bits (take at octets)) p.low) w.small (subst (λ (v : ℕ). v < 16777216) (sym e) w.unmarked))

      bits-more : line_bits (take (at + 1) octets) ≡ line_bits (take at octets) ++ bits_of 8 x
      bits-more = line-next octets at w.more ∙ ap (λ (y : ℕ). line_bits (take at octets) ++ bits_of 8 y) w.octet

      pub one_more : Passing octets run (first / 256 % 8 * 256) (at + 1)
      one_more =
          record {
            low = p.low;
            few = omega (arith, w.more);
            is_plain = ap (plain run) bits-more ∙ plain-joined run (line_bits (take at octets)) (bits_of 8 x) p.is_plain row-says.is_plain;
            place =
                ap (λ (k : ℕ). k * 256)
                (ap (λ (v : ℕ). v / 256 % 8) (sym w.told-run)
                ∙ run-of-first-row (run_over run (line_bits (take at octets))) x (run-over-small run (line_bits (take at octets)) p.low) w.small ∙ sym (ap (run_over run) bits-more ∙ run-over-append run (line_bits (take at octets)) (bits_of 8 x)));
          }

      pub kept_more : kept run (line_bits (take (at + 1) octets)) ≡ kept run (line_bits (take at octets)) ++ kept (run_over run (line_bits (take at octets))) (bits_of 8 x)
      kept_more = ap (kept run) bits-more ∙ kept_append run (line_bits (take at octets)) (bits_of 8 x)

-- ---- what the loops' numbers stay below
module _ {octets : List ℕ} {run base at : ℕ} (p : Passing octets run base at) where
  pub row-place : (x : ℕ) → x < 256 → base + x < 2048
  row-place x h = omega (arith, base-small octets run base at p)

  pub run_small : base / 256 < 8
  run_small = omega (arith, base-small octets run base at p)
