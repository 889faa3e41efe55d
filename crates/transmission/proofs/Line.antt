-- What the transmitter puts on the line, over a list of calls.
use Prim.Native.Nat.{ℕ, ◌≤◌}
use mathlib.Core.Path.{◌≡◌, refl, sym, ap, ap₂, subst, ◌∙◌}
use mathlib.Core.Bool.{Bool, true, false}
use mathlib.Core.List.{List, [], ◌∷◌, ◌++◌, append_assoc, append-nil}
use native.Mathlib.Omega.{arith}
use lib.ListN.{length, take}
use lib.Seq.{length-take-le}
use Rattle.bits.specs.Format.{basic}
use Rattle.bits.specs.Octets.{bits_of, line_bits}
use Rattle.bits.specs.Machine.{outs}
use Rattle.bits.proofs.Lines.{line-append}
use Rattle.sending.specs.Stuffing.{flag, unit_line}
use Rattle.sending.specs.Stream.{flags, units_line, stream_line}
use Rattle.board.specs.declared.Transmitter.{Transmitter}
use Rattle.board.specs.declared.Settings.{Settings}
use Rattle.board.specs.declared.Link.{Link}
use Rattle.link.specs.Calls.{Outcome, opened_link}
use Rattle.link.proofs.Kept.{opened}
use Rattle.output.specs.Output.{first_flag, unit_out, fill_content, fill_out}
use Rattle.transmission.specs.Transmission.{Sending, send, fill, answer, sent_on, went_out, link_after, octets_sent, Accepted, none, more, waiting_bits, fills_first, contents_from, contents}
use Rattle.transmission.specs.Promises.{TransmitterLine}
use Rattle.output.proofs.Outputs.{sendable}
use Rattle.transmission.proofs.Calls.{bits_out, Few, Put, accepted, one-call, few-wait, then_is}

-- ---- the last content's first two octets stay two
abbrev pub Two : Link → Type 0
Two l = length l.transmitter.last ≡ 2

pub few-two : (l : Link) (s : Sending) → Two l → Few l s
few-two l (send content output) h = tt
few-two l (fill output) h = h

take-two : (content : List ℕ) → 3 ≤ length content → length (take 2 content) ≡ 2
take-two content h = length-take-le 2 content (omega arith)

pub two-kept : (l : Link) (s : Sending) → Two l → Put l s → Two (sent_on l s)
two-kept l (send content output) h p =
    ap (λ (t : Transmitter). length t.last) (then_is l (send content output) p) ∙ take-two content (sendable l content output p.number).1
two-kept l (fill output) h p = ap (λ (t : Transmitter). length t.last) (then_is l (fill output) p) ∙ h

-- ---- all calls: the bits go out and wait in order
abbrev bits_over : Link → List Sending → List Bool
bits_over = outs sent_on bits_out

all-calls : (l : Link) (ss : List Sending) → Two l → Accepted l ss
    → line_bits (octets_sent l ss) ++ waiting_bits (link_after l ss) ≡ waiting_bits l ++ bits_over l ss
unfolding octets_sent link_after line_bits
all-calls l [] h none = sym (append-nil (waiting_bits l))
all-calls l (s ∷ ss) h (more z a) =
    let p = accepted l s (few-two l s h) z in
    let l' = sent_on l s in
    let w = waiting_bits (link_after l' ss) in
    ap (λ (bs : List Bool). bs ++ w) (line-append (went_out l s) (octets_sent l' ss))
    ∙ append_assoc (line_bits (went_out l s)) (line_bits (octets_sent l' ss)) w
    ∙ ap (λ (bs : List Bool). line_bits (went_out l s) ++ bs) (all-calls l' ss (two-kept l s h p) a)
    ∙ sym (append_assoc (line_bits (went_out l s)) (waiting_bits l') (bits_over l' ss))
    ∙ ap (λ (bs : List Bool). bs ++ bits_over l' ss) (one-call l s p)
    ∙ append_assoc (waiting_bits l) (bits_out l s) (bits_over l' ss)

all-few : (l : Link) (ss : List Sending) → Two l → Accepted l ss → length (waiting_bits l) ≤ 7 → length (waiting_bits (link_after l ss)) ≤ 7
unfolding link_after
all-few l [] h none few = few
all-few l (s ∷ ss) h (more z a) few =
    let p = accepted l s (few-two l s h) z in
    all-few (sent_on l s) ss (two-kept l s h p) a (few-wait l s p)

-- ---- which bits these are
-- a flag has gone and content was sent
record After (last : List ℕ) (t : Transmitter) : Type 0 where
  flagged : t.flagged ≡ true
  sent : t.sent ≡ true
  is : t.last ≡ last

sent-after : (l : Link) (content output : List ℕ) → Put l (send content output) → After (take 2 content) (sent_on l (send content output)).transmitter
sent-after l content output p =
    let e = then_is l (send content output) p in
    record { flagged = ap (λ (t : Transmitter). t.flagged) e; sent = ap (λ (t : Transmitter). t.sent) e; is = ap (λ (t : Transmitter). t.last) e }

fill-next : (last output : List ℕ) (ss : List Sending) → length last ≡ 2 → contents_from last (fill output ∷ ss) ≡ fill_content basic last ∷ contents_from last ss
unfolding contents_from
fill-next [] output ss h = absurd (omega arith)
fill-next (x ∷ last) output ss h = refl

after-content : (l : Link) (ss : List Sending) (last : List ℕ) → length last ≡ 2 → After last l.transmitter → Accepted l ss
    → bits_over l ss ≡ units_line (contents_from last ss)
unfolding units_line contents_from unit_out fill_out
after-content l [] last h t none = refl
after-content l (send content output ∷ ss) last h t (more z a) =
    let p = accepted l (send content output) tt z in
    ap₂ (λ (b : Bool) (bs : List Bool). (first_flag b ++ unit_line content) ++ bs) t.flagged
    (after-content (sent_on l (send content output)) ss (take 2 content) (take-two content (sendable l content output p.number).1) (sent-after l content output p) a)
after-content l (fill output ∷ ss) last h t (more z a) =
    let p = accepted l (fill output) (ap length t.is ∙ h) z in
    let e = then_is l (fill output) p in
    let t' : After last (sent_on l (fill output)).transmitter =
    record {
      flagged = ap (λ (x : Transmitter). x.flagged) e;
      sent = ap (λ (x : Transmitter). x.sent) e ∙ t.sent;
      is = ap (λ (x : Transmitter). x.last) e ∙ t.is;
    } in
    let bits : fill_out l.transmitter ≡ unit_line (fill_content basic last) = rw (t.sent, t.flagged, t.is) in
    ap₂ (λ (xs ys : List Bool). xs ++ ys) bits (after-content (sent_on l (fill output)) ss last h t' a)
    ∙ ap units_line (sym (fill-next last output ss h))

-- no content was sent; a flag has gone or not
record Before (flagged : Bool) (t : Transmitter) : Type 0 where
  flag-gone : t.flagged ≡ flagged
  sent : t.sent ≡ false

module _ (l : Link) (h : Two l) where
  -- a flag goes out
  fill-flag : l.transmitter.sent ≡ false → fill_out l.transmitter ≡ flag
  unfolding fill_out
  fill-flag e = rw e

  fill-before : (output : List ℕ) → l.transmitter.sent ≡ false → (answer l (fill output)).number ≡ 0 → Before true (sent_on l (fill output)).transmitter
  fill-before output e z =
      let is = then_is l (fill output) (accepted l (fill output) h z) in
      record { flag-gone = ap (λ (x : Transmitter). x.flagged) is; sent = ap (λ (x : Transmitter). x.sent) is ∙ e }

  -- a unit, with a flag before it if none has gone
  send-then : (content output : List ℕ) (ss : List Sending) (flagged : Bool) → l.transmitter.flagged ≡ flagged
      → (answer l (send content output)).number ≡ 0 → Accepted (sent_on l (send content output)) ss
      → bits_over l (send content output ∷ ss) ≡ (first_flag flagged ++ unit_line content) ++ units_line (contents_from (take 2 content) ss)
  unfolding unit_out
  send-then content output ss flagged e z a =
      let p = accepted l (send content output) tt z in
      ap₂ (λ (b : Bool) (bs : List Bool). (first_flag b ++ unit_line content) ++ bs) e
      (after-content (sent_on l (send content output)) ss (take 2 content) (take-two content (sendable l content output p.number).1) (sent-after l content output p) a)

before-content : (l : Link) (ss : List Sending) → Two l → Before true l.transmitter → Accepted l ss
    → bits_over l ss ≡ flags (fills_first ss) ++ units_line (contents ss)
unfolding flags fills_first units_line contents_from
before-content l [] h t none = refl
before-content l (send content output ∷ ss) h t (more z a) = send-then l h content output ss true t.flag-gone z a
before-content l (fill output ∷ ss) h t (more z a) =
    let p = accepted l (fill output) h z in
    ap₂ (λ (xs ys : List Bool). xs ++ ys) (fill-flag l h t.sent)
    (before-content (sent_on l (fill output)) ss (two-kept l (fill output) h p) (fill-before l h output t.sent z) a)

at-opening : (l : Link) (ss : List Sending) → Two l → Before false l.transmitter → Accepted l ss
    → bits_over l ss ≡ stream_line (fills_first ss) (contents ss)
unfolding stream_line flags fills_first units_line contents_from
at-opening l [] h t none = refl
at-opening l (send content output ∷ ss) h t (more z a) = send-then l h content output ss false t.flag-gone z a
at-opening l (fill output ∷ ss) h t (more z a) =
    let p = accepted l (fill output) h z in
    ap₂ (λ (xs ys : List Bool). xs ++ ys) (fill-flag l h t.sent)
    (before-content (sent_on l (fill output)) ss (two-kept l (fill output) h p) (fill-before l h output t.sent z) a)

-- ---- from opening
from-open : (s : Settings) (ss : List Sending) → Accepted (opened_link s) ss
    → (line_bits (octets_sent (opened_link s) ss) ++ waiting_bits (link_after (opened_link s) ss) ≡ stream_line (fills_first ss) (contents ss))
    × (length (waiting_bits (link_after (opened_link s) ss)) ≤ 7)
unfolding bits_of
from-open s ss a = (
  all-calls (opened_link s) ss refl a ∙ at-opening (opened_link s) ss refl (record { flag-gone = refl; sent = refl }) a,
  all-few (opened_link s) ss refl a (omega arith),
)

pub transmitter-line : TransmitterLine
transmitter-line l s pool descriptors ss z a =
    subst (λ (b : Link).
    Accepted b ss
    → (line_bits (octets_sent b ss) ++ waiting_bits (link_after b ss) ≡ stream_line (fills_first ss) (contents ss))
    × (length (waiting_bits (link_after b ss)) ≤ 7)) (sym (ap (λ (o : Outcome). o.link) (opened l s pool descriptors z))) (from-open s ss) a
