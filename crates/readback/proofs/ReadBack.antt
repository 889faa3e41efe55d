-- What send and fill put on the line, receive hands over: the line of the calls is put together with what a link makes of a line.
use Prim.Native.Nat.{ℕ, ◌+◌, ◌*◌, ◌≤◌, ◌<◌}
use mathlib.Core.Path.{◌≡◌, refl, sym, ap, subst, ◌∙◌}
use mathlib.Core.Bool.{Bool}
use mathlib.Core.List.{List, [], ◌∷◌, ◌++◌, append_assoc}
use native.Mathlib.Omega.{arith}
use lib.ListN.{length, take, drop, length-append}
use lib.Seq.{append_snoc, drop_at}
use Rattle.bits.specs.Octets.{line_bits}
use Rattle.bits.proofs.Lines.{length-line_bits, line-append}
use Rattle.sending.specs.Stuffing.{unit_line}
use Rattle.sending.specs.Stream.{flags, flags_before, units_line, stream_line}
use Rattle.board.specs.declared.Settings.{Settings}
use Rattle.reception.specs.Line.{board_after}
use Rattle.transmission.specs.Transmission.{Sending, send, fill, link_after, waiting_bits, fills_first, contents_from, contents}
use Rattle.transmission.proofs.Line.{transmitter-line}
use Rattle.link.specs.Held.{Held}
use Rattle.readback.specs.Feeding.{board, Feed, fed, held_after, Answered, none, more}
use Rattle.readback.specs.SlotRing.{unit_octets}
use Rattle.readback.specs.Streams.{just_opened}
use Rattle.readback.specs.Promises.{Booking, opening, Sends, line, ahead_of, ahead, ReadBack, last_sent, FillReadBack, AllReadBack, AllReadInRounds}
use Rattle.readback.proofs.Feeding.{same-settings}
use Rattle.readback.proofs.Lists.{seam, made-append}
use Rattle.readback.proofs.Standing.{read-back-fed, slot-below, longest, unit-length}
use Rattle.readback.proofs.Stream.{stream-read}
use Rattle.readback.proofs.Rounds.{stream-rounds}
use Rattle.readback.proofs.Using.{open-in-use, stays-in-use, stands_read}

-- ---- a stretch of a line's octets, up to the one in which the bits U end
pub record Cut (early : List ℕ) (last skipped : ℕ) (A U : List Bool) : Type 0 where
  pub behind : List Bool
  pub is : line_bits (early ++ (last ∷ [])) ≡ drop (8 * skipped) A ++ (U ++ behind)
  pub few : length behind ≤ 7

module _ (octets skipped early later : List ℕ) (last : ℕ) (A U rest w : List Bool)
    (octets-are : octets ≡ skipped ++ (early ++ (last ∷ later))) (bits_are : line_bits octets ++ w ≡ (A ++ U) ++ rest)
    (begins : 8 * length skipped ≤ length A) (not_yet : 8 * length (skipped ++ early) < length (A ++ U))
    (closes : length (A ++ U) ≤ 8 * length (skipped ++ early) + 8) where
  abbrev K : List Bool
  K = line_bits skipped

  abbrev F : List Bool
  F = line_bits (early ++ (last ∷ []))

  sizes : length (K ++ F) ≡ 8 * length (skipped ++ early) + 8
  sizes =
      omega (
        arith,
        length-append K F,
        length-line_bits skipped,
        length-line_bits (early ++ (last ∷ [])),
        length-append early (last ∷ []),
        length-append skipped early,
      )

  split : (K ++ F) ++ (line_bits later ++ w) ≡ (A ++ U) ++ rest
  split =
      sym (append_assoc (K ++ F) (line_bits later) w)
      ∙ ap (λ (bs : List Bool). (bs ++ line_bits later) ++ w) (sym (line-append skipped (early ++ (last ∷ []))))
      ∙ ap (λ (bs : List Bool). bs ++ w) (sym (line-append (skipped ++ (early ++ (last ∷ []))) later))
      ∙ ap (λ (xs : List ℕ). line_bits xs ++ w)
      (append_assoc skipped (early ++ (last ∷ [])) later ∙ ap (λ (xs : List ℕ). skipped ++ xs) (append_snoc early last later) ∙ sym octets-are)
      ∙ bits_are

  pub stretch : Cut early last (length skipped) A U
  stretch =
      let front = seam (K ++ F) (line_bits later ++ w) (A ++ U) rest split (omega (arith, sizes)) in
      let behind = front.between in
      let inner = seam A (U ++ behind) K F (sym (append_assoc A U behind) ∙ sym front.first) (omega (arith, length-line_bits skipped)) in
      record {
        behind = behind;
        is =
            sym inner.rest
            ∙ ap (λ (bs : List Bool). bs ++ (U ++ behind))
            (sym (ap (drop (8 * length skipped)) inner.first ∙ drop_at K inner.between (8 * length skipped) (length-line_bits skipped)));
        few = omega (arith, sizes, ap length front.first, length-append (A ++ U) behind);
      }

-- ---- the line of a booking
units-append : (xs ys : List (List ℕ)) → units_line (xs ++ ys) ≡ units_line xs ++ units_line ys
unfolding units_line
units-append = made-append unit_line units_line refl (λ x xs. refl)

abbrev pub waiting : Booking → List Bool
waiting b = waiting_bits (link_after (opening b).link b.sendings)

pub sent-line : (b : Booking) → Sends b
    → (line_bits (line b) ++ waiting b ≡ stream_line (fills_first b.sendings) (contents b.sendings)) × (length (waiting b) ≤ 7)
sent-line b s = transmitter-line b.link b.settings b.pool b.descriptors b.sendings s.opens s.accepts

-- before a unit, the unit, and what comes after it
pub parts-of : (ss : List Sending) (octets : List ℕ) (w : List Bool) (earlier later : List (List ℕ)) (content : List ℕ)
    → line_bits octets ++ w ≡ stream_line (fills_first ss) (contents ss) → contents ss ≡ earlier ++ (content ∷ later)
    → line_bits octets ++ w ≡ (ahead_of ss earlier ++ unit_line content) ++ units_line later
unfolding stream_line units_line
parts-of ss octets w earlier later content is e =
    let fl = flags (flags_before (fills_first ss) (contents ss)) in
    is ∙ ap (λ (bs : List Bool). fl ++ bs) (ap units_line e ∙ units-append earlier (content ∷ later))
    ∙ sym (append_assoc fl (units_line earlier) (unit_line content ++ units_line later))
    ∙ sym (append_assoc (fl ++ units_line earlier) (unit_line content) (units_line later))

line-parts : (b : Booking) (earlier later : List (List ℕ)) (content : List ℕ) → Sends b → contents b.sendings ≡ earlier ++ (content ∷ later)
    → line_bits (line b) ++ waiting b ≡ (ahead b earlier ++ unit_line content) ++ units_line later
line-parts b earlier later content s e = parts-of b.sendings (line b) (waiting b) earlier later content (sent-line b s).0 e

-- ---- read-back
settings-kept : (h : Held) (fs : List Feed) → Answered h fs → (held_after h fs).link.settings ≡ h.link.settings
unfolding held_after
settings-kept h [] none = refl
settings-kept h (f ∷ fs) (more z a) = settings-kept (fed h f) fs a ∙ same-settings h f z

pub read_back : ReadBack
read_back b earlier later content s e h fs u sized off ok x =
    let cut =
    stretch (line b) x.skipped x.early x.later x.last (ahead b earlier) (unit_line content) (units_line later) (waiting b)
    x.is (line-parts b earlier later content s e) x.begins x.not_yet x.closes in
    let used = stays-in-use h fs u sized in
    let back =
    read-back-fed h fs x.early x.last (drop (8 * length x.skipped) (ahead b earlier)) cut.behind content
    used.0 x.fed cut.is cut.few x.flag-read off ok.least ok.most ok.octets x.free in
    record {
      stands = back.0;
      reported = back.1;
      read =
          (stands_read (held_after h fs) (board_after h.link.settings (board h) x.early).unit_memory.units.slots.next (unit_octets content) used.1
          (subst (λ (z : Settings). (board_after h.link.settings (board h) x.early).unit_memory.units.slots.next < z.k)
          (sym (settings-kept h fs used.0)) (slot-below h fs x.early x.last used.0 x.fed))
          (omega (arith, unit-length content, ok.most, longest h fs x.early x.last used.0 x.fed)) back.0).1;
    }

-- ---- fill-in units
-- the contents of the units that are sent, with a fill among the calls
fill-contents : (last : List ℕ) (ss₁ ss₂ : List Sending) (output : List ℕ) (x y : ℕ) → last_sent last ss₁ ≡ x ∷ y ∷ []
    → contents_from last (ss₁ ++ (fill output ∷ ss₂)) ≡ contents_from last ss₁ ++ ((x ∷ y ∷ 0 ∷ []) ∷ contents_from (x ∷ y ∷ []) ss₂)
unfolding last_sent contents_from
fill-contents last [] ss₂ output x y e = ap (λ (z : List ℕ). contents_from z (fill output ∷ ss₂)) e
fill-contents last (send content out ∷ ss₁) ss₂ output x y e = ap {B = List (List ℕ)} (λ cs. content ∷ cs) (fill-contents (take 2 content) ss₁ ss₂ output x y e)
fill-contents [] (fill out ∷ ss₁) ss₂ output x y e = fill-contents [] ss₁ ss₂ output x y e
fill-contents (a ∷ last) (fill out ∷ ss₁) ss₂ output x y e =
    ap {B = List (List ℕ)} (λ cs. ((a ∷ last) ++ (0 ∷ [])) ∷ cs) (fill-contents (a ∷ last) ss₁ ss₂ output x y e)

pub fill-read-back : FillReadBack
fill-read-back b ss₁ ss₂ output x y s e last h fs u sized off ok z =
    read_back b (contents ss₁) (contents_from (x ∷ y ∷ []) ss₂) (x ∷ y ∷ 0 ∷ []) s (ap contents e ∙ fill-contents [] ss₁ ss₂ output x y last) h fs u sized off ok z

-- ---- all of the line
pub all-read-back : AllReadBack
all-read-back b l s pool descriptors fs sent z off allowed sized e k =
    stream-read l s pool descriptors fs (fills_first b.sendings) (contents b.sendings) (waiting b) z off
    (stays-in-use (just_opened l s pool descriptors) fs (open-in-use l s pool descriptors z) sized).0
    (ap (λ (xs : List ℕ). line_bits xs ++ waiting b) e ∙ (sent-line b sent).0) (sent-line b sent).1 allowed k

pub all-read-in-rounds : AllReadInRounds
all-read-in-rounds b l s pool descriptors ts sent z off allowed roomy e =
    stream-rounds l s pool descriptors ts (fills_first b.sendings) (contents b.sendings) (waiting b) z off roomy
    (ap (λ (xs : List ℕ). line_bits xs ++ waiting b) e ∙ (sent-line b sent).0) (sent-line b sent).1 allowed
