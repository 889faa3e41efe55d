-- What each call answers: the number of its table, and the link that it leaves.
use Prim.Native.Nat.{ℕ}
use mathlib.Core.Path.{◌≡◌, refl, sym, ap, ◌∙◌}
use mathlib.Core.Bool.{Bool, true, false, cond}
use lib.Dec.{eqb}
use borrow.Author.Tests.{eqb-true}
use Rattle.memory.specs.Lent.{empty_descriptors}
use Rattle.board.specs.declared.Link.{Link}
use Rattle.board.specs.Link.{new_link}
use Rattle.board.specs.With.{with_supervision}
use Rattle.link.specs.Answer.{Answer as NumberAndLink}
use Rattle.link.specs.Refusals.{first, open_number, command_number, clear_number, read_number}
use Rattle.link.specs.Commands.{command_of, obeying}
use Rattle.link.specs.Calls.{Outcome, outcome, opened_link, open_answer, command_answer, without_bits, clear_answer, hand_answer}
use Rattle.link.proofs.Answers.{done}
use Rattle.link.proofs.Kept.{refused-open, refused-command, refused-clear}
use Rattle.input.proofs.Cutting.{refused-receive}
use Rattle.input.specs.Refusals.{receive_number}
use Rattle.input.specs.Receive.{ReceiveOutcome, received, receive_answer}
use Rattle.output.specs.Refusals.{send_number, fill_number}
use Rattle.output.specs.Output.{OutputOutcome, send_answer, fill_answer}
use Rattle.transmission.specs.Transmission.{send as sending, fill as filling}
use Rattle.transmission.proofs.Calls.{put, is-done}
use Rattle.transmission.proofs.Faults.{refused-send, refused-fill}
use Rattle.readback.proofs.Rounds.{hand-link}
use Rattle.calls.specs.Call.{Call, opens, receive, command, clear, send, fill, read, reads_number, hand_back, wipe, answer, faults}

-- ---- an answer that is one of two by its number
picked : {A : Type 0} (num : A → ℕ) (n : ℕ) (yes-done no-done : A) → num yes-done ≡ 0 → num no-done ≡ n → num (cond (eqb n 0) yes-done no-done) ≡ n
picked num n yes-done no-done y q = go (eqb n 0) refl
  where
    go : (b : Bool) → eqb n 0 ≡ b → num (cond b yes-done no-done) ≡ n
    go true e = y ∙ sym (eqb-true n 0 e)
    go false e = q

pub number_is : (l : Link) (c : Call) → (answer l c).number ≡ first (faults l c)
unfolding open_answer open_number receive_answer receive_number command_answer command_number clear_answer clear_number send_answer send_number fill_answer fill_number hand_answer read_number first
number_is l (opens s pool descriptors) = picked (λ (o : Outcome). o.number) _ _ _ refl refl
number_is l (receive octets pool descriptors records) = picked (λ (o : ReceiveOutcome). o.number) _ _ _ refl refl
number_is l (command n) = picked (λ (o : NumberAndLink). o.number) _ _ _ refl refl
number_is l (clear chosen) = picked (λ (o : NumberAndLink). o.number) _ _ _ refl refl
number_is l (send content output) = picked (λ (o : OutputOutcome). o.number) _ _ _ refl refl
number_is l (fill output) = picked (λ (o : OutputOutcome). o.number) _ _ _ refl refl
number_is l (read pool descriptors slot) = refl
number_is l (reads_number pool descriptors slot) = refl
number_is l (hand_back pool descriptors slot) = picked (λ (o : Outcome). o.number) _ _ _ refl refl
number_is l (wipe octets words) = refl

-- ---- the link after a call that is answered 0
abbrev pub link_done : Link → Call → Link
link_done l (opens s pool descriptors) = opened_link s
link_done l (receive octets pool descriptors records) = (received l octets pool descriptors records).link
link_done l (command n) = obeying (command_of n) l
link_done l (clear chosen) =
    with_supervision l (record { monitor = l.supervision.monitor; events = without_bits l.supervision.events chosen })
link_done l (send content output) = (put l (sending content output)).link
link_done l (fill output) = (put l (filling output)).link
link_done l (read pool descriptors slot) = l
link_done l (reads_number pool descriptors slot) = l
link_done l (hand_back pool descriptors slot) = l
link_done l (wipe octets words) = new_link

pub link-done : (l : Link) (c : Call) → first (faults l c) ≡ 0 → (answer l c).link ≡ link_done l c
unfolding open_answer open_number receive_answer receive_number command_answer command_number clear_answer clear_number send_answer send_number fill_answer fill_number hand_answer read_number
link-done l (opens s pool descriptors) z =
    let e : open_answer l s pool descriptors ≡ outcome 0 (opened_link s) pool (empty_descriptors s.k) = done _ _ _ z in
    ap (λ (o : Outcome). o.link) e
link-done l (receive octets pool descriptors records) z =
    let e : receive_answer l octets pool descriptors records ≡ received l octets pool descriptors records = done _ _ _ z in
    ap (λ (o : ReceiveOutcome). o.link) e
link-done l (command n) z =
    let e : command_answer l n ≡ record { number = 0; link = obeying (command_of n) l } = done _ _ _ z in
    ap (λ (o : NumberAndLink). o.link) e
link-done l (clear chosen) z =
    let e : clear_answer l chosen ≡ record { number = 0; link = link_done l (clear chosen) } = done _ _ _ z in
    ap (λ (o : NumberAndLink). o.link) e
link-done l (send content output) z = ap (λ (o : OutputOutcome). o.link) (is-done l (sending content output) z)
link-done l (fill output) z = ap (λ (o : OutputOutcome). o.link) (is-done l (filling output) z)
link-done l (read pool descriptors slot) z = refl
link-done l (reads_number pool descriptors slot) z = refl
link-done l (hand_back pool descriptors slot) z = hand-link (record { link = l; pool = pool; descriptors = descriptors }) slot
link-done l (wipe octets words) z = refl

pub link-refused : (l : Link) (c : Call) → (first (faults l c) ≡ 0 → ⊥) → (answer l c).link ≡ l
unfolding open_number receive_number command_number clear_answer clear_number send_number fill_number first
link-refused l (opens s pool descriptors) z = ap (λ (o : Outcome). o.link) (refused-open l s pool descriptors z)
link-refused l (receive octets pool descriptors records) z = ap (λ (o : ReceiveOutcome). o.link) (refused-receive l octets pool descriptors records z)
link-refused l (command n) z = ap (λ (o : NumberAndLink). o.link) (refused-command l n z)
link-refused l (clear chosen) z = ap (λ (o : NumberAndLink). o.link) (refused-clear l chosen z)
link-refused l (send content output) z = ap (λ (o : OutputOutcome). o.link) (refused-send l content output z)
link-refused l (fill output) z = ap (λ (o : OutputOutcome). o.link) (refused-fill l output z)
link-refused l (read pool descriptors slot) z = refl
link-refused l (reads_number pool descriptors slot) z = refl
link-refused l (hand_back pool descriptors slot) z = hand-link (record { link = l; pool = pool; descriptors = descriptors }) slot
link-refused l (wipe octets words) z = absurd (z refl)
