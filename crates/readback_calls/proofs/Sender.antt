-- What the sends and fills of any calls put on the line: what they would put there with no other call between them.
use Prim.Native.Nat.{ℕ, ◌*◌, ◌≤◌}
use mathlib.Core.Path.{◌≡◌, refl, sym, ap, ap₂, subst, ◌∙◌}
use mathlib.Core.Bool.{Bool, true, false, cond}
use mathlib.Core.List.{List, [], ◌∷◌, ◌++◌}
use borrow.Author.Tests.{eqb-true, eqb-false}
use lib.Dec.{eqb}
use lib.ListN.{length, take, drop, replicate}
use Rattle.bits.specs.Format.{basic}
use Rattle.bits.specs.Machine.{run, outs}
use Rattle.bits.specs.Octets.{line_bits}
use Rattle.sending.specs.Packing.{waiting, octets_out}
use Rattle.board.specs.declared.Transmitter.{Transmitter}
use Rattle.board.specs.declared.Link.{Link}
use Rattle.board.specs.Link.{new_link}
use Rattle.board.specs.With.{with_sender}
use Rattle.link.specs.Refusals.{first}
use Rattle.output.specs.Output.{OutputOutcome, not_sent, sender, unit_out, fill_out}
use Rattle.transmission.specs.Transmission.{Sending, area_of, send as sending, fill as filling, answer as transmitted, sent_on, went_out, link_after as link_sent, octets_sent, Accepted, none, more}
use Rattle.transmission.proofs.Calls.{bits_out, number_of, put, Put, is-done, is-refused, accepted, octets-out, then_is}
use Rattle.transmission.proofs.Line.{few-two, transmitter-line}
use Rattle.calls.specs.Call.{Call, opens, receive, command, clear, send, fill, read, reads_number, hand_back, wipe, link_after, faults}
use Rattle.calls.specs.Lending.{opening}
use Rattle.promises.proofs.Answering.{number_is}
use Rattle.promises.proofs.Opening.{opening-answered}
use Rattle.readback_calls.specs.Sender.{is_wipe, one_booking, put_out, accepted_in, line_of, sendings_of, LineOfCalls}
use Rattle.readback_calls.proofs.Staying.{is_quiet, keeps, Live, live-next, first-no-wipe, next, live-opened}

-- the call that makes a send or fill
abbrev call_of : Sending → Call
call_of (sending content output) = send content output
call_of (filling output) = fill output

-- ---- one send or fill, on two links with the same transmitter
-- on a link that is open and not malformed its number rests on its arguments alone
its-number : (l : Link) (x : Sending) → Live l → (transmitted l x).number ≡ first (drop 2 (faults new_link (call_of x)))
unfolding first
its-number l (sending content output) v = number_is l (send content output) ∙ rw (v.holds.formed, v.opened)
its-number l (filling output) v = number_is l (fill output) ∙ rw (v.holds.formed, v.opened)

module _ (l k : Link) (same : l.transmitter ≡ k.transmitter) where
  same-octets : (x : Sending) → octets_out (sender l.transmitter) (bits_out l x) ≡ octets_out (sender k.transmitter) (bits_out k x)
  same-octets (sending content output) = ap (λ (t : Transmitter). octets_out (sender t) (unit_out t content)) same
  same-octets (filling output) = ap (λ (t : Transmitter). octets_out (sender t) (fill_out t)) same

  same_then : (x : Sending) → (put l x).link.transmitter ≡ (put k x).link.transmitter
  same_then (sending content output) = ap (λ (t : Transmitter). (put (with_sender new_link t new_link.supervision) (sending content output)).link.transmitter) same
  same_then (filling output) = ap (λ (t : Transmitter). (put (with_sender new_link t new_link.supervision) (filling output)).link.transmitter) same

  module _ (x : Sending) (v : Live l) (u : Live k) (z : (transmitted l x).number ≡ 0) where
    there-number : (transmitted k x).number ≡ 0
    there-number = its-number k x u ∙ sym (its-number l x v) ∙ z

    here : Put l x
    here = accepted l x (few-two l x v.holds.last) z

    there : Put k x
    there = accepted k x (few-two k x u.holds.last) there-number

    sent-octets : went_out l x ≡ went_out k x
    sent-octets = octets-out l x here ∙ same-octets x ∙ sym (octets-out k x there)

    sent-then : (sent_on l x).transmitter ≡ (sent_on k x).transmitter
    sent-then = then_is l x here ∙ same_then x ∙ sym (then_is k x there)

-- a refused one puts nothing out and leaves the link as it is
refused-so : (l : Link) (x : Sending) → ((transmitted l x).number ≡ 0 → ⊥) → transmitted l x ≡ not_sent (number_of l x) l (area_of x)
refused-so l x z = is-refused l x (λ q. z (ap (λ (o : OutputOutcome). o.number) (is-done l x q)))

-- what its call is
accepted-in : (l : Link) (x : Sending) → accepted_in l (call_of x) ≡ cond (eqb (transmitted l x).number 0) (x ∷ []) []
accepted-in l (sending content output) = refl
accepted-in l (filling output) = refl

put-out : (l : Link) (x : Sending) → put_out l (call_of x) ≡ went_out l x
put-out l (sending content output) = refl
put-out l (filling output) = refl

next-is : (l : Link) (x : Sending) → next l (call_of x) ≡ sent_on l x
next-is l (sending content output) = refl
next-is l (filling output) = refl

no-wipe : (x : Sending) → is_wipe (call_of x) ≡ false
no-wipe (sending content output) = refl
no-wipe (filling output) = refl

-- ---- any calls from l on, and their accepted sends and fills from k on
abbrev sent_in : Link → List Call → List Sending
sent_in = outs next accepted_in

record Runs (l k : Link) (cs : List Call) : Type 0 where
  accepts : Accepted k (sent_in l cs)
  octets : outs next put_out l cs ≡ octets_sent k (sent_in l cs)
  same : (run next l cs).transmitter ≡ (link_sent k (sent_in l cs)).transmitter

-- a call that sends nothing
nothing-sent : (l k : Link) (c : Call) (cs : List Call) → accepted_in l c ≡ [] → put_out l c ≡ [] → Runs (next l c) k cs → Runs l k (c ∷ cs)
nothing-sent l k c cs a p r =
    record {
      accepts = subst (λ (ss : List Sending). Accepted k (ss ++ sent_in (next l c) cs)) (sym a) r.accepts;
      octets =
          ap (λ (os : List ℕ). os ++ outs next put_out (next l c) cs) p ∙ r.octets
          ∙ ap (λ (ss : List Sending). octets_sent k (ss ++ sent_in (next l c) cs)) (sym a);
      same = r.same ∙ ap (λ (ss : List Sending). (link_sent k (ss ++ sent_in (next l c) cs)).transmitter) (sym a);
    }

-- an accepted send or fill
one-sent : (l k : Link) (x : Sending) (c : Call) (cs : List Call) → accepted_in l c ≡ x ∷ [] → put_out l c ≡ went_out k x → (transmitted k x).number ≡ 0
    → Runs (next l c) (sent_on k x) cs → Runs l k (c ∷ cs)
unfolding octets_sent link_sent
one-sent l k x c cs a p z r =
    record {
      accepts = subst (λ (ss : List Sending). Accepted k (ss ++ sent_in (next l c) cs)) (sym a) (more z r.accepts);
      octets =
          ap₂ (λ (os ps : List ℕ). os ++ ps) p r.octets
          ∙ ap (λ (ss : List Sending). octets_sent k (ss ++ sent_in (next l c) cs)) (sym a);
      same = r.same ∙ ap (λ (ss : List Sending). (link_sent k (ss ++ sent_in (next l c) cs)).transmitter) (sym a);
    }

-- the calls after c
abbrev Rest : Link → Call → List Call → Type 0
Rest l c cs = (k : Link) → Live k → (next l c).transmitter ≡ k.transmitter → Runs (next l c) k cs

module _ (l k : Link) (v : Live l) (u : Live k) (same : l.transmitter ≡ k.transmitter) (cs : List Call) where
  quiet-call : (c : Call) → is_quiet c ≡ true → accepted_in l c ≡ [] → put_out l c ≡ [] → is_wipe c ≡ false → Rest l c cs → Runs l k (c ∷ cs)
  quiet-call c q a p w rest = nothing-sent l k c cs a p (rest k u ((keeps l v.opened c w).transmitter q ∙ same))

  sending-call : (x : Sending) → Rest l (call_of x) cs → Runs l k (call_of x ∷ cs)
  sending-call x rest = go (eqb (transmitted l x).number 0) refl
    where
      go : (b : Bool) → eqb (transmitted l x).number 0 ≡ b → Runs l k (call_of x ∷ cs)
      go true e =
          let z = eqb-true _ 0 e in
          one-sent l k x (call_of x) cs (accepted-in l x ∙ ap (λ (b : Bool). cond b (x ∷ []) []) e) (put-out l x ∙ sent-octets l k same x v u z)
          (there-number l k same x v u z)
          (rest (sent_on k x) (subst Live (next-is k x) (live-next k (call_of x) u (no-wipe x)))
          (ap (λ (m : Link). m.transmitter) (next-is l x) ∙ sent-then l k same x v u z))
      go false e =
          let z = eqb-false _ 0 e in
          nothing-sent l k (call_of x) cs (accepted-in l x ∙ ap (λ (b : Bool). cond b (x ∷ []) []) e) (put-out l x ∙ ap (λ (o : OutputOutcome). take o.count o.output) (refused-so l x z))
          (rest k u (ap (λ (m : Link). m.transmitter) (next-is l x ∙ ap (λ (o : OutputOutcome). o.link) (refused-so l x z)) ∙ same))

  any-call : (c : Call) → is_wipe c ≡ false → Rest l c cs → Runs l k (c ∷ cs)
  any-call (opens s pool descriptors) w rest = quiet-call (opens s pool descriptors) refl refl refl w rest
  any-call (receive octets pool descriptors records) w rest = quiet-call (receive octets pool descriptors records) refl refl refl w rest
  any-call (command n) w rest = quiet-call (command n) refl refl refl w rest
  any-call (clear chosen) w rest = quiet-call (clear chosen) refl refl refl w rest
  any-call (send content output) w rest = sending-call (sending content output) rest
  any-call (fill output) w rest = sending-call (filling output) rest
  any-call (read pool descriptors slot) w rest = quiet-call (read pool descriptors slot) refl refl refl w rest
  any-call (reads_number pool descriptors slot) w rest = quiet-call (reads_number pool descriptors slot) refl refl refl w rest
  any-call (hand_back pool descriptors slot) w rest = quiet-call (hand_back pool descriptors slot) refl refl refl w rest
  any-call (wipe octets words) w rest = quiet-call (wipe octets words) refl refl refl w rest

runs : (cs : List Call) (l k : Link) → Live l → Live k → l.transmitter ≡ k.transmitter → one_booking cs ≡ true → Runs l k cs
unfolding octets_sent link_sent
runs [] l k v u same one = record { accepts = none; octets = refl; same = same }
runs (c ∷ cs) l k v u same one =
    let rest = first-no-wipe c cs one in
    any-call l k v u same cs c rest.0 (λ k' u' same'. runs cs (next l c) k' (live-next l c v rest.0) u' same' rest.1)

-- ---- from opening
pub line-of-calls : LineOfCalls
unfolding line_of sendings_of link_after
line-of-calls s cs range one =
    let l = link_after (opening s ∷ []) in
    let v = live-opened s range in
    let r = runs cs l l v v refl one in
    let pool : List ℕ = replicate (basic.slot * s.k) 0 in
    let descriptors : List ℕ = replicate (2 * s.k) 0 in
    let line = transmitter-line new_link s pool descriptors (sendings_of s cs) (opening-answered s range) r.accepts in
    let waits = ap (λ (t : Transmitter). waiting (sender t)) r.same in (
      ap₂ (λ (os : List ℕ) (w : List Bool). line_bits os ++ w) r.octets waits ∙ line.0,
      subst (λ (w : List Bool). length w ≤ 7) (sym waits) line.1,
    )
