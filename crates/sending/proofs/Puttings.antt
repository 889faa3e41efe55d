-- Bits put one after the other: where the sender is, and what stands in the area.
use Prim.Native.Nat.{ℕ, ◌+◌, ◌*◌, ◌≤◌, ◌<◌}
use mathlib.Core.Path.{◌≡◌, refl, sym, ap, ap₂, subst, ◌∙◌}
use mathlib.Core.Bool.{Bool}
use mathlib.Core.List.{List, [], ◌++◌, append-nil, append_assoc}
use native.Mathlib.Omega.{arith}
use lib.ListN.{length, length-append}
use lib.Seq.{sets}
use Rattle.bits.specs.Octets.{octet_of, whole_octets, bits_after}
use Rattle.bits.proofs.Digits.{length-bits_of, all_back, value-back, octet_of-lt}
use Rattle.bits.proofs.Whole.{length_whole, length-after, whole-few, after-few, whole_append, after-append, together}
use Rattle.bits.proofs.Writing.{sets-append}
use Rattle.sending.specs.declared.Tx.{Tx}
use Rattle.sending.specs.Packing.{waiting, octets_out, still_waiting}
use Rattle.sending.specs.Sender.{TxInRange}
use Rattle.sending.specs.InnerPutting.{after_bits, area_put, Puts}
use Rattle.sending.specs.Promises.{NothingLost}

pub length-waiting : (t : Tx) → length (waiting t) ≡ t.count
length-waiting t = length-bits_of t.count t.wait

pub nothing-lost : NothingLost
unfolding octets_out still_waiting
nothing-lost t bs = (together (waiting t ++ bs), omega (arith, length-after (waiting t ++ bs)))

-- the waiting octet and count hold what waits
pub waiting-after : (t : Tx) (bs : List Bool) (ones : ℕ) → waiting (after_bits t bs ones) ≡ still_waiting t bs
waiting-after t bs ones = all_back (length (still_waiting t bs)) (still_waiting t bs) refl

pub ready-after : (t : Tx) (bs : List Bool) (ones : ℕ) → ones ≤ 4 → TxInRange (after_bits t bs ones)
ready-after t bs ones h = record { few = (nothing-lost t bs).1; low = octet_of-lt (still_waiting t bs); short = h }

pub ready-put : (out : List ℕ) (t : Tx) (bs : List Bool) (ones : ℕ) (r : Tx) (out' : List ℕ) → ones ≤ 4 → Puts out t bs ones r out' → TxInRange r
ready-put out t bs ones r out' h p = subst TxInRange (sym p.tx) (ready-after t bs ones h)

-- eight for each octet out and one for each waiting bit: each bit adds one
pub place_after : (t : Tx) (bs : List Bool) (ones : ℕ) → (after_bits t bs ones).at * 8 + (after_bits t bs ones).count ≡ t.at * 8 + t.count + length bs
unfolding octets_out still_waiting
place_after t bs ones =
    omega (arith, length_whole (waiting t ++ bs), length-after (waiting t ++ bs), length-append (waiting t) bs, length-waiting t)

-- ---- two parts
module _ (t : Tx) (xs ys : List Bool) (ones : ℕ) where
  out-append : octets_out t (xs ++ ys) ≡ octets_out t xs ++ octets_out (after_bits t xs ones) ys
  unfolding octets_out still_waiting
  out-append =
      ap whole_octets (sym (append_assoc (waiting t) xs ys)) ∙ whole_append (waiting t ++ xs) ys
      ∙ ap (λ (w : List Bool). whole_octets (waiting t ++ xs) ++ whole_octets (w ++ ys)) (sym (waiting-after t xs ones))

  wait-append : still_waiting t (xs ++ ys) ≡ still_waiting (after_bits t xs ones) ys
  unfolding still_waiting
  wait-append =
      ap bits_after (sym (append_assoc (waiting t) xs ys)) ∙ after-append (waiting t ++ xs) ys
      ∙ ap (λ (w : List Bool). bits_after (w ++ ys)) (sym (waiting-after t xs ones))

  pub puts-append : (end : ℕ) → after_bits (after_bits t xs ones) ys end ≡ after_bits t (xs ++ ys) end
  puts-append end =
      let a : t.at + length (octets_out t xs) + length (octets_out (after_bits t xs ones) ys) ≡ t.at + length (octets_out t (xs ++ ys)) =
      omega (arith, ap length out-append, length-append (octets_out t xs) (octets_out (after_bits t xs ones) ys)) in
      ap₂ {C = Tx} (λ (k : ℕ) (w : List Bool). record { at = k; count = length w; wait = octet_of w; ones = end }) a (sym wait-append)

pub written-append : (out : List ℕ) (t : Tx) (xs ys : List Bool) (ones : ℕ) → area_put (area_put out t xs) (after_bits t xs ones) ys ≡ area_put out t (xs ++ ys)
written-append out t xs ys ones =
    sym (sets-append (octets_out t xs) (octets_out (after_bits t xs ones) ys) out t.at) ∙ ap (sets out t.at) (sym (out-append t xs ys ones))

-- ---- no bits
module _ (t : Tx) (g : TxInRange t) where
  small : length (waiting t ++ []) < 8
  small = omega (arith, length-append (waiting t) [], length-waiting t, g.few)

  none_out : octets_out t [] ≡ []
  unfolding octets_out
  none_out = whole-few (waiting t ++ []) small

  none-still : still_waiting t [] ≡ waiting t
  unfolding still_waiting
  none-still = after-few (waiting t ++ []) small ∙ append-nil (waiting t)

  pub puts_none : (ones : ℕ) → record { at = t.at; count = t.count; wait = t.wait; ones = ones } ≡ after_bits t [] ones
  puts_none ones =
      let n : t.count ≡ length (still_waiting t []) = sym (ap length none-still ∙ length-waiting t) in
      let v : t.wait ≡ octet_of (still_waiting t []) = sym (ap octet_of none-still ∙ value-back t.count t.wait g.low) in
      let a : t.at ≡ t.at + length (octets_out t []) = omega (arith, ap length none_out) in
      ap₃ a n v
    where
      ap₃ : {a b c d e f : ℕ} → a ≡ b → c ≡ d → e ≡ f
          → ◌≡◌ {A = Tx} (record { at = a; count = c; wait = e; ones = ones }) (record { at = b; count = d; wait = f; ones = ones })
      ap₃ p q r = λ i. record { at = p i; count = q i; wait = r i; ones = ones }

  pub written_none : (out : List ℕ) → out ≡ area_put out t []
  written_none out = ap (sets out t.at) (sym none_out)
