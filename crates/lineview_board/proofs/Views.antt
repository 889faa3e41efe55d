-- How the answers of the calls make up what the program does.
use Prim.Native.Nat.{ℕ, suc, ◌+◌, ◌-◌, ◌≤◌, ◌<◌}
use mathlib.Core.Path.{◌≡◌, refl, sym, ap, ◌∙◌}
use mathlib.Core.List.{List, [], ◌∷◌}
use mathlib.Core.Bool.{Bool, true, false, false≢true}
use lib.Dec.{eqb}
use Rattle.std.specs.Prelude.{Result, Ok, Err, MatchResult}
use Rattle.std.specs.Result.{result_unwrap_or}
use Rattle.bits.specs.Format.{basic}
use Rattle.memory.specs.declared.Status.TheVariants.{Empty}
use Rattle.memory.specs.Lent.{status_of, length_of, status_word}
use Rattle.link.specs.declared.Refusal.{Refusal}
use Rattle.link.specs.Answer.{Answer, number_of, answered}
use Rattle.link.specs.Refusals.{read_number, unreadable}
use Rattle.link.proofs.Faults.{none}
use Rattle.link.proofs.Kept.{refused-hand-back}
use native.Mathlib.Numerals.{add-one}
use native.Mathlib.Omega.{arith}
use Rattle.board.specs.declared.Settings.{Settings}
use Rattle.board.specs.declared.Link.{Link}
use Rattle.board.specs.Link.{new_link}
use Rattle.link.specs.Calls.{Outcome, outcome_of, open_answer, command_answer, hand_answer}
use Rattle.link.specs.Held.{Held, handed_back}
use Rattle.link.specs.declared.Counted.{Counted}
use Rattle.input.specs.Receive as Receive
use Rattle.input.specs.Receive.{ReceiveOutcome, receive_answer}
use Rattle.lineview_board.specs.View.{booking_opened, handed_from, filled_back, octet_fed}

-- opened, then the failure monitor started
pub opened_is : (s : Settings) (pool descriptors p d : List ℕ) (closed opened started : Link) (r q : Result Link Refusal) → closed ≡ new_link
    → outcome_of closed r p d ≡ open_answer closed s pool descriptors → opened ≡ result_unwrap_or r closed
    → answered opened q ≡ command_answer opened 2 → started ≡ result_unwrap_or q opened
    → record { link = started; pool = p; descriptors = d } ≡ booking_opened s pool descriptors
unfolding booking_opened
opened_is s pool descriptors p d closed opened started r q new eo o ea a =
    let e = sym eo in
    let ee : open_answer new_link s pool descriptors ≡ record { number = number_of r; link = result_unwrap_or r closed; pool = p; descriptors = d } = ap (λ (x : Link). open_answer x s pool descriptors) (sym new) ∙ e in
    let f = sym ea in
    let link : (command_answer (open_answer new_link s pool descriptors).link 2).link ≡ started =
    ap (λ (x : Outcome). (command_answer x.link 2).link) ee ∙ ap (λ (x : Link). (command_answer x 2).link) (sym o) ∙ ap (λ (x : Answer). x.link) f ∙ sym a in
    sym (λ i. record { link = link i; pool = (ee i).pool; descriptors = (ee i).descriptors })

-- hand back gives the link as it was, refused or not
hand-link : (l : Link) (pool descriptors : List ℕ) (slot : ℕ) → (hand_answer l pool descriptors slot).link ≡ l
unfolding hand_answer
hand-link l pool descriptors slot = go (eqb (read_number l pool descriptors slot) 0) refl
  where
    go : (b : Bool) → eqb (read_number l pool descriptors slot) 0 ≡ b → (hand_answer l pool descriptors slot).link ≡ l
    go true e = rw e
    go false e = rw e

-- and refuses a slot that is empty, whatever else is wrong
pub empty-unread : (l : Link) (pool descriptors : List ℕ) (slot : ℕ) → read_number l pool descriptors slot ≡ 0 → status_of descriptors slot ≡ status_word Empty → ⊥
unfolding read_number
empty-unread l pool descriptors slot z e =
    let n1 = none _ _ _ (λ q. omega arith) z in
    let n2 = none _ _ _ (λ q. omega arith) n1.1 in
    let n5 = none _ _ _ (λ q. omega arith) n2.1 in
    let n12 = none _ _ _ (λ q. omega arith) n5.1 in
    let n13 = none _ _ _ (λ q. omega arith) n12.1 in
    false≢true (sym n13.0 ∙ ap (λ (status : ℕ). unreadable basic status (length_of descriptors slot)) e)

no_slot : (slot : ℕ) (h : Held) → handed_from slot 0 h ≡ h
unfolding handed_from
no_slot slot h = refl

slot_step : (slot : ℕ) (h : Held) (n : ℕ) → handed_from (suc slot) n (handed_back h slot) ≡ handed_from slot (suc n) h
unfolding handed_from
slot_step slot h n = refl

left : (slot : ℕ) → slot < 16 → suc (16 - (slot + 1)) ≡ 16 - slot
left slot below = omega arith

-- what the call leaves of a slot, with the link as it was
pub slot-handed : (h : Held) (slot : ℕ) (r : Result Link Refusal) (p d : List ℕ) → outcome_of h.link r p d ≡ hand_answer h.link h.pool h.descriptors slot
    → record { link = h.link; pool = p; descriptors = d } ≡ handed_back h slot
slot-handed h slot r p d e =
    let link = sym (hand-link h.link h.pool h.descriptors slot) in
    λ i. record { link = link i; pool = (e i).pool; descriptors = (e i).descriptors }

-- an empty slot is as the call would leave it
pub slot-empty : (h : Held) (slot : ℕ) → status_of h.descriptors slot ≡ status_word Empty → h ≡ handed_back h slot
slot-empty h slot e =
    let a = refused-hand-back h.link h.pool h.descriptors slot (λ z. empty-unread h.link h.pool h.descriptors slot z e) in
    sym (ap {B = Held} (λ (x : Outcome). record { link = x.link; pool = x.pool; descriptors = x.descriptors }) a)

-- one slot more
slot-more : (slot : ℕ) (h h₀ h' : Held) → slot < 16 → handed_from slot (16 - slot) h ≡ filled_back h₀ → h' ≡ handed_back h slot
    → handed_from (slot + 1) (16 - (slot + 1)) h' ≡ filled_back h₀
slot-more slot h h₀ h' below so_far e =
    ap (handed_from (slot + 1) (16 - (slot + 1))) e
    ∙ ap (λ (k : ℕ). handed_from k (16 - (slot + 1)) (handed_back h slot)) (add-one slot) ∙ slot_step slot h (16 - (slot + 1))
    ∙ ap (λ (n : ℕ). handed_from slot n h) (left slot below) ∙ so_far

-- one slot more, which the call hands back
pub slot_handed : (slot : ℕ) (h h₀ : Held) (r : Result Link Refusal) (p d : List ℕ) → slot < 16 → handed_from slot (16 - slot) h ≡ filled_back h₀
    → outcome_of h.link r p d ≡ hand_answer h.link h.pool h.descriptors slot
    → handed_from (slot + 1) (16 - (slot + 1)) (record { link = h.link; pool = p; descriptors = d }) ≡ filled_back h₀
slot_handed slot h h₀ r p d below so_far e = slot-more slot h h₀ _ below so_far (slot-handed h slot r p d e)

-- or which is empty
pub slot_empty : (slot : ℕ) (h h₀ : Held) → slot < 16 → handed_from slot (16 - slot) h ≡ filled_back h₀ → status_of h.descriptors slot ≡ status_word Empty
    → handed_from (slot + 1) (16 - (slot + 1)) h ≡ filled_back h₀
slot_empty slot h h₀ below so_far e = slot-more slot h h₀ h below so_far (slot-empty h slot e)

-- none is left
pub all_back : (slot : ℕ) (h h₀ : Held) → 16 ≤ slot → handed_from slot (16 - slot) h ≡ filled_back h₀ → h ≡ filled_back h₀
all_back slot h h₀ none so_far = sym (ap (λ (n : ℕ). handed_from slot n h) (omega arith) ∙ no_slot slot h) ∙ so_far

-- the octet received, then the slots
module _ (l : Link) (octet : ℕ) (pool descriptors records p d a p' d' : List ℕ) where
  fed : (number count : ℕ) (after : Link)
      → record { number = number; link = after; count = count; pool = p; descriptors = d; records = a } ≡ receive_answer l (octet ∷ []) pool descriptors records
      → record { link = after; pool = p'; descriptors = d' } ≡ filled_back (record { link = after; pool = p; descriptors = d })
      → record { number = number; link = after; count = count; pool = p'; descriptors = d'; records = a } ≡ octet_fed l octet pool descriptors records
  unfolding octet_fed
  fed number count after er eh =
      let back = eh ∙ ap (λ (x : ReceiveOutcome). filled_back (record { link = x.link; pool = x.pool; descriptors = x.descriptors })) er in
      λ i.
      record {
        number = (er i).number;
        link = (back i).link;
        count = (er i).count;
        pool = (back i).pool;
        descriptors = (back i).descriptors;
        records = (er i).records;
      }

  pub fed_is : (after : Link) (r : Result Counted Refusal) {P : Counted → Type 0}
      → Receive.outcome_of l r p d a ≡ receive_answer l (octet ∷ []) pool descriptors records
      → MatchResult r P (λ _. after ≡ l) → ((x : Counted) → P x → after ≡ x.link)
      → record { link = after; pool = p'; descriptors = d' } ≡ filled_back (record { link = after; pool = p; descriptors = d })
      → Receive.outcome_of l r p' d' a ≡ octet_fed l octet pool descriptors records
  fed_is after (Ok x) er el given eh = fed _ _ x.link er (rw (given x el) at eh)
  fed_is after (Err x) er el given eh = fed _ _ l er (rw el at eh)
