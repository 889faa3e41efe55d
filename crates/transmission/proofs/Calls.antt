-- One accepted send or fill: its bits go behind those that waited, whole octets go out, and the rest waits.
use Prim.Native.Nat.{ℕ, ◌+◌, ◌≤◌}
use mathlib.Core.Path.{◌≡◌, refl, sym, ap, ap₂, subst, ◌∙◌}
use mathlib.Core.Bool.{Bool, true, false, cond}
use mathlib.Core.List.{List, [], ◌∷◌, ◌++◌, append_assoc}
use native.Mathlib.Nat.{zero-add}
use native.Mathlib.Omega.{arith}
use borrow.Author.Tests.{eqb-true, eqb-false}
use lib.Dec.{eqb}
use lib.ListN.{length, take, drop, length-append}
use lib.Seq.{sets-eq, length-sets, take_at, drop_at}
use Rattle.bits.specs.Format.{basic}
use Rattle.bits.specs.Octets.{line_bits, whole_octets}
use Rattle.bits.proofs.Digits.{all_back}
use Rattle.bits.proofs.Whole.{length_whole}
use Rattle.sending.specs.Stuffing.{flag, unit_line}
use Rattle.sending.specs.Packing.{waiting, octets_out, still_waiting}
use Rattle.sending.proofs.Puttings.{length-waiting, nothing-lost}
use Rattle.sending.proofs.Stuffs.{few-octets}
use Rattle.board.specs.declared.Link.{Link}
use Rattle.board.specs.Promises.{Sized}
use Rattle.board.specs.InnerRanges.{WellFormed}
use Rattle.link.proofs.Answers.{done}
use Rattle.output.specs.Refusals.{send_number, fill_number}
use Rattle.output.specs.Output.{OutputOutcome, sender, first_flag, unit_out, fill_content, fill_out, fill_event, put_out, not_sent, send_answer, fill_answer}
use Rattle.transmission.specs.Transmission.{Sending, send, fill, area_of, answer, sent_on, went_out, waiting_bits}
use Rattle.transmission.specs.Promises.{FewSent, RestUnchanged}
use Rattle.output.proofs.Outputs.{fillable, sendable, first_short}
use Rattle.transmission.proofs.Faults.{refused-send, refused-fill}

-- what a call puts behind the bits that wait, and what its link keeps
abbrev pub bits_out : Link → Sending → List Bool
bits_out l (send content output) = unit_out l.transmitter content
bits_out l (fill output) = fill_out l.transmitter

abbrev pub sent_then : Link → Sending → Bool
sent_then l (send content output) = true
sent_then l (fill output) = l.transmitter.sent

abbrev pub last_then : Link → Sending → List ℕ
last_then l (send content output) = take 2 content
last_then l (fill output) = l.transmitter.last

abbrev pub event_then : Link → Sending → ℕ
event_then l (send content output) = 128
event_then l (fill output) = fill_event l.transmitter.sent

abbrev pub number_of : Link → Sending → ℕ
number_of l (send content output) = send_number l content output
number_of l (fill output) = fill_number l output

abbrev pub put : Link → Sending → OutputOutcome
put l s = put_out l (bits_out l s) (sent_then l s) (last_then l s) (event_then l s) (area_of s)

-- ---- a call is accepted or refused
pub is-done : (l : Link) (s : Sending) → number_of l s ≡ 0 → answer l s ≡ put l s
unfolding send_answer fill_answer
is-done l (send content output) z = done _ _ _ z
is-done l (fill output) z = done _ _ _ z

pub is-refused : (l : Link) (s : Sending) → (number_of l s ≡ 0 → ⊥) → answer l s ≡ not_sent (number_of l s) l (area_of s)
is-refused l (send content output) z = refused-send l content output z
is-refused l (fill output) z = refused-fill l output z

-- ---- few octets
-- content and a link that allow few octets to go out
abbrev pub Few : Link → Sending → Type 0
Few l (send content output) = Unit {0}
Few l (fill output) = length l.transmitter.last ≡ 2

few-unit : (l : Link) (content : List ℕ) → WellFormed l → length content ≤ 276 → length (octets_out (sender l.transmitter) (unit_out l.transmitter content)) ≤ 335
unfolding octets_out unit_out
few-unit l content o h =
    let t = sender l.transmitter in
    let f = first_flag l.transmitter.flagged in
    subst (λ (bs : List Bool). length (whole_octets bs) ≤ 335) (append_assoc (waiting t) f (unit_line content))
    (few-octets (waiting t ++ f) content
    (omega (arith, length-append (waiting t) f, length-waiting t, first_short l.transmitter.flagged l.transmitter.count o.waiting o.unflagged)) h)

few-flag : (l : Link) → WellFormed l → length (octets_out (sender l.transmitter) flag) ≤ 335
unfolding octets_out
few-flag l o =
    omega (
      arith,
      length_whole (waiting (sender l.transmitter) ++ flag),
      length-append (waiting (sender l.transmitter)) flag,
      length-waiting (sender l.transmitter),
      o.waiting,
    )

few-fill : (l : Link) → WellFormed l → length l.transmitter.last ≡ 2 → length (octets_out (sender l.transmitter) (fill_out l.transmitter)) ≤ 335
unfolding fill_out
few-fill l o h = go l.transmitter.sent
  where
    go : (b : Bool) → length (octets_out (sender l.transmitter) (cond b (unit_out l.transmitter (fill_content basic l.transmitter.last)) flag)) ≤ 335
    go true = few-unit l (fill_content basic l.transmitter.last) o (omega (arith, length-append l.transmitter.last (0 ∷ [])))
    go false = few-flag l o

pub record Room (l : Link) (s : Sending) : Type 0 where
  pub few : length (octets_out (sender l.transmitter) (bits_out l s)) ≤ 335
  pub area : 336 ≤ length (area_of s)

room : (l : Link) (s : Sending) → Few l s → number_of l s ≡ 0 → Room l s
room l (send content output) h z = let ok = sendable l content output z in record { few = few-unit l content ok.0.formed ok.2; area = ok.0.room }
room l (fill output) h z = let ok = fillable l output z in record { few = few-fill l ok.formed h; area = ok.room }

-- an accepted call
pub record Put (l : Link) (s : Sending) : Type 0 where
  pub is : answer l s ≡ put l s
  pub number : number_of l s ≡ 0
  pub room : Room l s

pub accepted : (l : Link) (s : Sending) → Few l s → (answer l s).number ≡ 0 → Put l s
accepted l s h e = go (eqb (number_of l s) 0) refl
  where
    go : (b : Bool) → eqb (number_of l s) 0 ≡ b → Put l s
    go true q = let z = eqb-true (number_of l s) 0 q in record { is = is-done l s z; number = z; room = room l s h z }
    go false q =
        let z = eqb-false (number_of l s) 0 q in
        absurd (z (sym (ap (λ (x : OutputOutcome). x.number) (is-refused l s z)) ∙ e))

-- ---- the line
module _ (l : Link) (s : Sending) (p : Put l s) where
  abbrev os : List ℕ
  os = octets_out (sender l.transmitter) (bits_out l s)

  abbrev still : List Bool
  still = still_waiting (sender l.transmitter) (bits_out l s)

  pub octets-out : went_out l s ≡ os
  octets-out =
      ap (λ (x : OutputOutcome). take x.count x.output) p.is
      ∙ ap (take (length os)) (sets-eq os (area_of s) 0 (omega (arith, p.room.few, p.room.area)))
      ∙ take_at os (drop (0 + length os) (area_of s)) (length os) refl

  pub still-waiting : waiting_bits (sent_on l s) ≡ still
  still-waiting = ap (λ (x : OutputOutcome). waiting_bits x.link) p.is ∙ all_back (length still) still refl

  pub one-call : line_bits (went_out l s) ++ waiting_bits (sent_on l s) ≡ waiting_bits l ++ bits_out l s
  one-call = ap₂ (λ (x : List ℕ) (w : List Bool). line_bits x ++ w) octets-out still-waiting ∙ (nothing-lost (sender l.transmitter) (bits_out l s)).0

  pub few-wait : length (waiting_bits (sent_on l s)) ≤ 7
  few-wait = omega (arith, ap length still-waiting, (nothing-lost (sender l.transmitter) (bits_out l s)).1)

  pub then_is : (sent_on l s).transmitter ≡ (put l s).link.transmitter
  then_is = ap (λ (x : OutputOutcome). x.link.transmitter) p.is

-- ---- what any call leaves of the area
few-of : (l : Link) (s : Sending) → Sized l → Few l s
few-of l (send content output) h = tt
few-of l (fill output) h = h.last

pub few-sent : FewSent
few-sent l s h = go (eqb (number_of l s) 0) refl
  where
    go : (b : Bool) → eqb (number_of l s) 0 ≡ b → (answer l s).count ≤ 335
    go true q =
        let z = eqb-true (number_of l s) 0 q in
        subst (λ (x : OutputOutcome). x.count ≤ 335) (sym (is-done l s z)) (room l s (few-of l s h) z).few
    go false q = subst (λ (x : OutputOutcome). x.count ≤ 335) (sym (is-refused l s (eqb-false (number_of l s) 0 q))) (omega arith)

abbrev Rest : Sending → OutputOutcome → Type 0
Rest s x = (length x.output ≡ length (area_of s)) × (drop x.count x.output ≡ drop x.count (area_of s))

pub rest-unchanged : RestUnchanged
rest-unchanged l s h = go (eqb (number_of l s) 0) refl
  where
    go : (b : Bool) → eqb (number_of l s) 0 ≡ b → Rest s (answer l s)
    go true q =
        let z = eqb-true (number_of l s) 0 q in
        let r = room l s (few-of l s h) z in
        let os = octets_out (sender l.transmitter) (bits_out l s) in
        subst (Rest s) (sym (is-done l s z)) (
          length-sets (area_of s) 0 os,
          ap (drop (length os)) (sets-eq os (area_of s) 0 (omega (arith, r.few, r.area)))
              ∙ drop_at os (drop (0 + length os) (area_of s)) (length os) refl ∙ ap (λ (k : ℕ). drop k (area_of s)) (zero-add (length os)),
        )
    go false q = subst (Rest s) (sym (is-refused l s (eqb-false (number_of l s) 0 q))) (refl, refl)
