-- Four octets at once, by four words of the table.
use mathlib.Core.Path.{◌≡◌, refl, sym, ap, ap₂, ◌∙◌}
use mathlib.Core.List.{List, [], ◌∷◌}
use Prim.Native.Nat.{ℕ, ◌+◌, ◌/◌, ◌%◌, ◌≤◌, ◌<◌}
use native.Mathlib.Omega.{arith}
use lib.Bits.{bit_xor, xor_assoc, xor_zero_r, xor_comm, xor_lt, xor_shr}
use lib.ListN.{length, drop, get_or}
use Rattle.bits.specs.Octets.{bits_of, line_bits}
use Rattle.fcs.specs.Check.{check_bits}
use Rattle.fcs.specs.Table.{zeros, check_table}
use Rattle.fcs.specs.Promises.{four_words, FourByTable}
use Rattle.fcs.proofs.Linear.{zeros-xor, zeros-add, check-lt}
use Rattle.fcs.proofs.Octetwise.{word, octet-zeros}
use Rattle.fcs.proofs.Rest.{Rest, first}

abbrev fed : ℕ → ℕ → ℕ
fed r o = check_bits r (bits_of 8 o)

-- ---- an octet fed is an octet added, and eight zero bits
none : (r : ℕ) → fed r 0 ≡ zeros 8 r
unfolding bits_of
none r = refl

added-zeros : (r o : ℕ) → o < 256 → fed r o ≡ zeros 8 (bit_xor r o)
added-zeros r o h = octet-zeros r o ∙ sym (sym (none (bit_xor r o)) ∙ octet-zeros (bit_xor r o) 0 ∙ same)
  where
    high_same : bit_xor r o / 256 ≡ r / 256
    high_same = xor_shr r o 8 ∙ ap (bit_xor (r / 256)) (omega arith) ∙ xor_zero_r (r / 256)

    same : bit_xor (bit_xor r o / 256) (zeros 8 (bit_xor (bit_xor r o) 0 % 256)) ≡ bit_xor (r / 256) (zeros 8 (bit_xor r o % 256))
    same = ap₂ (λ (m n : ℕ). bit_xor m (zeros 8 (n % 256))) high_same (xor_zero_r (bit_xor r o))

apart : (r o : ℕ) → o < 256 → fed r o ≡ bit_xor (zeros 8 r) (zeros 8 o)
apart r o h = added-zeros r o h ∙ zeros-xor 8 r o

eight-more : (m n x y : ℕ) → zeros 8 (bit_xor (zeros m x) (zeros n y)) ≡ bit_xor (zeros (m + 8) x) (zeros (n + 8) y)
eight-more m n x y = zeros-xor 8 (zeros m x) (zeros n y) ∙ ap₂ bit_xor (sym (zeros-add m 8 x)) (sym (zeros-add n 8 y))

pub high_lt : (r b : ℕ) → r < 65536 → b < 256 → bit_xor (r / 256) b < 256
high_lt r b h hb = xor_lt 8 (r / 256) b (omega arith) hb

-- ---- two, three and four octets: what each adds takes eight zero bits more for each octet behind it
module _ (r a b : ℕ) (hb : b < 256) where
  abbrev low : ℕ
  low = bit_xor r a % 256

  abbrev high : ℕ
  high = bit_xor (r / 256) b

  two : fed (fed r a) b ≡ bit_xor (zeros 16 low) (zeros 8 high)
  two =
      added-zeros (fed r a) b hb
      ∙ ap (zeros 8) (ap (λ (n : ℕ). bit_xor n b) (octet-zeros r a ∙ xor_comm (r / 256) (zeros 8 low)) ∙ xor_assoc (zeros 8 low) (r / 256) b)
      ∙ eight-more 8 0 low high

  three : (c : ℕ) → c < 256 → fed (fed (fed r a) b) c ≡ bit_xor (bit_xor (zeros 24 low) (zeros 16 high)) (zeros 8 c)
  three c hc = apart (fed (fed r a) b) c hc ∙ ap (λ (n : ℕ). bit_xor n (zeros 8 c)) (ap (zeros 8) two ∙ eight-more 16 8 low high)

  four : (c d : ℕ) → c < 256 → d < 256
      → fed (fed (fed (fed r a) b) c) d ≡ bit_xor (bit_xor (bit_xor (zeros 32 low) (zeros 24 high)) (zeros 16 c)) (zeros 8 d)
  four c d hc hd =
      apart (fed (fed (fed r a) b) c) d hd
      ∙ ap (λ (n : ℕ). bit_xor n (zeros 8 d))
      (ap (zeros 8) (three c hc)
      ∙ eight-more 0 8 (bit_xor (zeros 24 low) (zeros 16 high)) c
      ∙ ap (λ (n : ℕ). bit_xor n (zeros 16 c)) (eight-more 24 16 low high))

  words : (c d : ℕ) → r < 65536 → c < 256 → d < 256
      → four_words check_table r a b c d ≡ bit_xor (bit_xor (bit_xor (zeros 32 low) (zeros 24 high)) (zeros 16 c)) (zeros 8 d)
  words c d h hc hd =
      let k : high < 256 = high_lt r b h hb in
      ap₂ bit_xor
      (ap₂ bit_xor
      (ap₂ bit_xor
      (word (768 + low) 3 low (omega arith) (omega arith) (omega arith))
      (word (512 + high) 2 high (omega arith) (omega arith) (omega arith)))
      (word (256 + c) 1 c (omega arith) (omega arith) (omega arith)))
      (word d 0 d (omega arith) (omega arith) (omega arith))

-- ---- the promise, and the loop's step with the table lent
four-line : (r a b c d : ℕ) → check_bits r (line_bits (a ∷ b ∷ c ∷ d ∷ [])) ≡ fed (fed (fed (fed r a) b) c) d
unfolding bits_of line_bits
four-line r a b c d = refl

pub four-by-table : FourByTable
four-by-table r a b c d h hb hc hd = four-line r a b c d ∙ four r a b hb c d hc hd ∙ sym (words r a b hb c d h hc hd)

four-by-lent : (t : List ℕ) → t ≡ check_table → (r a b c d : ℕ) → r < 65536 → b < 256 → c < 256 → d < 256
    → four_words t r a b c d ≡ fed (fed (fed (fed r a) b) c) d
four-by-lent t e r a b c d h hb hc hd =
    ap (λ (w : List ℕ). four_words w r a b c d) e ∙ words r a b hb c d h hc hd ∙ sym (four r a b hb c d hc hd)

-- ---- the loop's step: the register stays within sixteen bits, and the octets behind the four, fed to it, give the whole
within : (r o : ℕ) → r < 65536 → fed r o < 65536
within r o h = check-lt (bits_of 8 o) r h

pub next-four : (s w : List ℕ) → w ≡ check_table → (r : ℕ) (t : List ℕ) → 4 ≤ length t → r < 65536
    → get_or t 1 0 < 256 → get_or t 2 0 < 256 → get_or t 3 0 < 256 → Rest s r t
    → (four_words w r (get_or t 0 0) (get_or t 1 0) (get_or t 2 0) (get_or t 3 0) < 65536)
    × Rest s (four_words w r (get_or t 0 0) (get_or t 1 0) (get_or t 2 0) (get_or t 3 0)) (drop 4 t)
next-four s w e r [] n h hb hc hd l = absurd (omega arith)
next-four s w e r (a ∷ []) n h hb hc hd l = absurd (omega arith)
next-four s w e r (a ∷ b ∷ []) n h hb hc hd l = absurd (omega arith)
next-four s w e r (a ∷ b ∷ c ∷ []) n h hb hc hd l = absurd (omega arith)
next-four s w e r (a ∷ b ∷ c ∷ d ∷ t) n h hb hc hd l =
    let whole = four-by-lent w e r a b c d h hb hc hd in (
      rw whole (within _ d (within _ c (within _ b (within r a h)))),
      first s _ d t _ whole (first s _ c (d ∷ t) _ refl (first s _ b (c ∷ d ∷ t) _ refl (first s r a (b ∷ c ∷ d ∷ t) _ refl l))),
    )
