-- A whole unit put: content, check octets, flag, one after the other.
use Prim.Native.Nat.{ℕ}
use mathlib.Core.Path.{◌≡◌, sym, ap, subst, ◌∙◌}
use mathlib.Core.Bool.{Bool}
use mathlib.Core.List.{List, [], ◌++◌, append_assoc}
use native.Mathlib.Omega.{arith}
use Rattle.bits.specs.Octets.{line_bits}
use Rattle.bits.proofs.Lines.{line-append}
use Rattle.fcs.specs.Check.{check_octets}
use Rattle.sending.specs.declared.Tx.{Tx}
use Rattle.sending.specs.Stuffing.{stuffed, ones_over, flag, unit_bits, unit_line}
use Rattle.sending.specs.Packing.{octets_out, still_waiting}
use Rattle.sending.specs.Sender.{TxInRange}
use Rattle.sending.specs.InnerPutting.{Puts, Room}
use Rattle.sending.proofs.Stuffs.{stuffed-append, over-le}
use Rattle.sending.proofs.PutSteps.{Rest, begins, first-room, goes, ends, marked}

-- the ones in a row after the content
abbrev pub ones_before : List ℕ → ℕ
ones_before content = ones_over 0 (line_bits content)

-- what is put behind the content
abbrev ending : List ℕ → List ℕ → List Bool
ending content check = stuffed (ones_before content) (line_bits check) ++ flag

parts : (content check : List ℕ) → check ≡ check_octets content → unit_line content ≡ stuffed 0 (line_bits content) ++ ending content check
unfolding unit_line unit_bits
parts content check k =
    ap (λ (x : List ℕ). stuffed 0 (line_bits (content ++ x)) ++ flag) (sym k)
    ∙ ap (λ (bs : List Bool). stuffed 0 bs ++ flag) (line-append content check)
    ∙ ap (λ (bs : List Bool). bs ++ flag) (stuffed-append (line_bits content) (line_bits check) 0)
    ∙ append_assoc (stuffed 0 (line_bits content)) (stuffed (ones_before content) (line_bits check)) flag

module _ (out : List ℕ) (t : Tx) (content check : List ℕ) (k : check ≡ check_octets content) (g : TxInRange t) (r : Room t (unit_line content) out) where
  abbrev Left : List ℕ → Tx → List Bool → Type 0
  Left = Rest out (marked t 0) (unit_line content) 0

  before : Left out (marked t 0) (stuffed 0 (line_bits content) ++ ending content check)
  before =
      subst (λ (bs : List Bool). Left out (marked t 0) bs) (parts content check k)
      (begins out (marked t 0) (unit_line content) 0 (record { few = g.few; low = g.low; short = omega arith }) r)

  pub content-room : Room (marked t 0) (stuffed 0 (line_bits content)) out
  content-room = first-room out (marked t 0) (unit_line content) 0 out (marked t 0) (stuffed 0 (line_bits content)) (ending content check) before

  module _ (a : Tx) (out₁ : List ℕ) (p : Puts out (marked t 0) (stuffed 0 (line_bits content)) (ones_before content) a out₁) where
    -- the content is put
    after-content : Left out₁ a (stuffed a.ones (line_bits check) ++ flag)
    after-content =
        let o : ones_before content ≡ a.ones = sym (ap (λ (x : Tx). x.ones) p.tx) in
        subst (λ (n : ℕ). Left out₁ a (stuffed n (line_bits check) ++ flag)) o
        (goes out (marked t 0) (unit_line content) 0 out (marked t 0) (stuffed 0 (line_bits content)) (ending content check) (ones_before content)
        (over-le 0 (line_bits content) (omega arith)) before a out₁ p)

    pub check-room : Room a (stuffed a.ones (line_bits check)) out₁
    check-room = first-room out (marked t 0) (unit_line content) 0 out₁ a (stuffed a.ones (line_bits check)) flag after-content

    module _ (b : Tx) (out₂ : List ℕ)
        (q : Puts out₁ a (stuffed a.ones (line_bits check)) (ones_over a.ones (line_bits check)) b out₂) where
      -- the check octets are put
      after_check : Left out₂ b flag
      after_check =
          goes out (marked t 0) (unit_line content) 0 out₁ a (stuffed a.ones (line_bits check)) flag
          (ones_over a.ones (line_bits check)) (over-le a.ones (line_bits check) after-content.ready.short) after-content b out₂ q

      pub flag-room : Room b flag out₂
      flag-room = after_check.room

      -- the flag is put
      pub unit-put : (e : Tx) (out₃ : List ℕ) → Puts out₂ b flag 0 e out₃ → Puts out t (unit_line content) 0 e out₃
      unfolding octets_out still_waiting
      unit-put e out₃ f =
          let o : e.ones ≡ 0 = ap (λ (x : Tx). x.ones) f.tx in
          let w : Puts out (marked t 0) (unit_line content) 0 (marked e 0) out₃ =
          ends out (marked t 0) (unit_line content) 0 out₃ e (goes out (marked t 0) (unit_line content) 0 out₂ b flag [] 0 (omega arith) after_check e out₃ f) in
          record { tx = ap (marked e) o ∙ w.tx; area = w.area }
