-- What the calls keep: refusals, the wipe, opening, handing back.
use Prim.Native.Nat.{ℕ, ◌*◌, ◌<◌}
use mathlib.Core.Path.{◌≡◌, refl, sym, ap, ◌∙◌}
use mathlib.Core.Bool.{true, false}
use mathlib.Core.List.{List}
use native.Mathlib.Omega.{arith}
use lib.ListN.{length, length-replicate}
use borrow.Author.Tests.{eq-eqb, lt-leb, eqb-true}
use Rattle.std.proofs.lemmas.Bool.{cond_both}
use Rattle.bits.specs.Format.{basic}
use Rattle.memory.specs.declared.Status.TheVariants as statuses
use Rattle.memory.specs.Lent.{empty_descriptors, status_of, with_slot, with_descriptor, empty_slot, status_word}
use Rattle.memory.proofs.Slots.{wiped-zeros, pool-length, descriptor-written, descriptors-length}
use Rattle.board.specs.declared.Settings.{Settings}
use Rattle.board.specs.declared.Link.{Link}
use Rattle.board.specs.Malformed.{malformed}
use Rattle.link.specs.Refusals.{first, fits_memory, open_number, read_number}
use Rattle.link.specs.Calls.{Outcome, outcome, opened_link, open_answer, command_answer, read_part, hand_answer, clear_answer}
use Rattle.link.specs.Promises.{RefusedOpen, RefusedCommand, RefusedRead, RefusedHandBack, WipeLeavesNothing, OpensExactly, HandedBackIsEmpty, RefusedClear}
use Rattle.link.proofs.Answers.{done, refused, openable, readable}

pub refused-open : RefusedOpen
unfolding open_answer
refused-open l s pool descriptors z = refused _ _ _ z

pub refused-command : RefusedCommand
unfolding command_answer
refused-command l command z = refused _ _ _ z

pub refused-clear : RefusedClear
unfolding clear_answer
refused-clear l chosen z = refused _ _ _ z

pub refused-read : RefusedRead
unfolding read_part
refused-read l pool descriptors slot z = refused _ _ _ z

pub refused-hand-back : RefusedHandBack
unfolding hand_answer
refused-hand-back l pool descriptors slot z = refused _ _ _ z

pub wipe-leaves-nothing : WipeLeavesNothing
wipe-leaves-nothing octets words = (refl, wiped-zeros octets, wiped-zeros words)

-- an answer of 0 is that of a call with no fault
pub open-number : (l : Link) (s : Settings) (pool descriptors : List ℕ) → (open_answer l s pool descriptors).number ≡ open_number l s pool descriptors
unfolding open_answer
open-number l s pool descriptors = cond_both _ _ _ (λ (o : Outcome). o.number ≡ open_number l s pool descriptors) (λ e. sym (eqb-true _ 0 e)) (λ e. refl)

pub opens-exactly : OpensExactly
unfolding open_number first
opens-exactly l s pool descriptors = (
  λ e.
      let ok = openable l s pool descriptors (sym (open-number l s pool descriptors) ∙ e) in
      (ok.good, ok.closed, ok.range, ok.fits, ok.clean-pool, ok.clean-words),
  λ p. open-number l s pool descriptors ∙ rw (p.0, p.1, p.2, p.3, p.4, p.5),
)

-- an open answered 0 gives the booking's link and empty slots
pub opened : (l : Link) (s : Settings) (pool descriptors : List ℕ) → (open_answer l s pool descriptors).number ≡ 0
    → open_answer l s pool descriptors ≡ outcome 0 (opened_link s) pool (empty_descriptors s.k)
unfolding open_answer
opened l s pool descriptors e = done _ _ _ (sym (open-number l s pool descriptors) ∙ e)

pub hand-number : (l : Link) (pool descriptors : List ℕ) (slot : ℕ) → (hand_answer l pool descriptors slot).number ≡ read_number l pool descriptors slot
unfolding hand_answer
hand-number l pool descriptors slot = cond_both _ _ _ (λ (o : Outcome). o.number ≡ read_number l pool descriptors slot) (λ e. sym (eqb-true _ 0 e)) (λ e. refl)

emptied : length (empty_slot basic) ≡ 280
unfolding empty_slot
emptied = length-replicate {A = ℕ} 280 0

handed : (l : Link) (pool descriptors : List ℕ) (slot : ℕ) → read_number l pool descriptors slot ≡ 0
    → hand_answer l pool descriptors slot ≡ outcome 0 l (with_slot basic pool slot (empty_slot basic)) (with_descriptor descriptors slot (status_word statuses.Empty) 0)
unfolding hand_answer
handed l pool descriptors slot z = done _ _ _ z

-- a slot that is marked empty is not read
empty-unread : (l : Link) (pool descriptors : List ℕ) (slot : ℕ) → malformed l ≡ false → l.opened ≡ true
    → fits_memory basic l.settings.k pool descriptors ≡ true → slot < l.settings.k → status_of descriptors slot ≡ status_word statuses.Empty → read_number l pool descriptors slot ≡ 13
unfolding read_number first
empty-unread l pool descriptors slot m o f b s =
    rw (m, o, f, lt-leb l.settings.k slot b, s)

pub handed-back-is-empty : HandedBackIsEmpty
unfolding fits_memory
handed-back-is-empty l pool descriptors slot e =
    let z = sym (hand-number l pool descriptors slot) ∙ e in
    let ok = readable l pool descriptors slot z in
    let a : hand_answer l pool descriptors slot ≡ outcome 0 l (with_slot basic pool slot (empty_slot basic)) (with_descriptor descriptors slot (status_word statuses.Empty) 0) = handed l pool descriptors slot z in
    let p : length (with_slot basic pool slot (empty_slot basic)) ≡ 280 * l.settings.k = pool-length basic pool (empty_slot basic) slot emptied (omega (arith, ok.octets, ok.below)) ∙ ok.octets in
    let w : length (with_descriptor descriptors slot (status_word statuses.Empty) 0) ≡ 2 * l.settings.k = descriptors-length descriptors slot (status_word statuses.Empty) 0 ∙ ok.words in
    ap (λ (x : Outcome). read_number l x.pool x.descriptors slot) a
    ∙ empty-unread l (with_slot basic pool slot (empty_slot basic)) (with_descriptor descriptors slot (status_word statuses.Empty) 0) slot ok.good ok.opened
    (rw (eq-eqb _ _ p, eq-eqb _ _ w)) ok.below (descriptor-written descriptors slot (status_word statuses.Empty) 0 (omega (arith, ok.words, ok.below))).0
