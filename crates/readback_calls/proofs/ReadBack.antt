-- What one booking's calls send, another's calls hand over: the line of the calls is put together with what a booking has received since its opening.
use Prim.Native.Nat.{ℕ, ◌+◌, ◌*◌, ◌≤◌}
use mathlib.Core.Path.{◌≡◌, refl, sym, ap, ap₂, subst, ◌∙◌}
use mathlib.Core.Bool.{Bool, true, false}
use mathlib.Core.List.{List, [], ◌∷◌, ◌++◌, map, append_assoc, append_cancel_right}
use lib.ListN.{length, drop}
use Rattle.bits.specs.Format.{basic}
use Rattle.bits.specs.Machine.{outs}
use Rattle.bits.specs.Octets.{bits_of, line_bits}
use Rattle.bits.proofs.Lines.{line-append}
use Rattle.bits.proofs.Machines.{run-append}
use Rattle.framing.specs.Delimitation.{Receiver, closed, new_receiver, flagged, next, receiver_after, findings}
use Rattle.filter.specs.declared.Fate.{Fate}
use Rattle.filter.specs.declared.Memory.{Memory}
use Rattle.filter.specs.Memory.{empty_memory, settled}
use Rattle.filter.specs.History.{FilterInput, good, command-4, memory_next, fate_of, fates}
use Rattle.sending.specs.Stuffing.{unit_bits, unit_line}
use Rattle.sending.specs.Stream.{units_line}
use Rattle.sending.proofs.Sent.{sent-good, sent-octets}
use Rattle.board.specs.declared.Settings.{Settings}
use Rattle.board.specs.declared.Link.{Link}
use Rattle.units.specs.Indications.{line_receiver}
use Rattle.reception.specs.Line.{board_after}
use Rattle.link.specs.Held.{Held}
use Rattle.transmission.specs.Transmission.{waiting_bits, fills_first, contents}
use Rattle.readback.specs.Feeding.{board}
use Rattle.readback.specs.Promises.{ahead_of}
use Rattle.readback.specs.SlotRing.{unit_octets}
use Rattle.readback.specs.Streams.{AllAllowed, none, more, closed_out}
use Rattle.readback.specs.Using.{InUse}
use Rattle.reception.proofs.Lines.{by_bits}
use Rattle.readback.proofs.Closing.{last-finds}
use Rattle.readback.proofs.ReadBack.{Cut, stretch, parts-of}
use Rattle.readback.proofs.Pieces.{stream-found}
use Rattle.readback.proofs.Stream.{closed-allowed}
use Rattle.readback.proofs.Using.{lent}
use Rattle.calls.specs.Call.{Call, link_after}
use Rattle.calls.specs.Lending.{opening}
use Rattle.promises.proofs.Holding.{holds_after}
use Rattle.bookings.specs.Booking.{booking_after}
use Rattle.bookings.specs.History.{if_good, good_units}
use Rattle.bookings.proofs.History.{histories}
use Rattle.readback_calls.specs.Sender.{line_of, sendings_of}
use Rattle.readback_calls.specs.ReadBack.{Receives, Heard, Comes, ReadBack, over_or_lost, slots_found, AllReadBack}
use Rattle.readback_calls.proofs.Staying.{stays}
use Rattle.readback_calls.proofs.Sender.{line-of-calls}
use Rattle.readback_calls.proofs.Closing.{Handed, handed}

-- ---- the octet that has the last bit of the unit's closing flag
module _ (M : ℕ) (heard line : List ℕ) (before : List Bool) (content : List ℕ) (last : ℕ) (x : Heard M heard line before content last)
    (rest w : List Bool) (bits_are : line_bits line ++ w ≡ (before ++ unit_line content) ++ rest) where
  abbrev n : ℕ
  n = 8 * length x.skipped

  cut : Cut x.early last (length x.skipped) before (unit_line content)
  cut = stretch line x.skipped x.early x.later last before (unit_line content) rest w x.is bits_are x.begins x.not_yet x.closes

  -- the receiver when the octet comes
  abbrev R : Receiver
  R = receiver_after M new_receiver (line_bits x.lead)

  heard-so : line_receiver M R x.early ≡ receiver_after M new_receiver (line_bits (x.lead ++ x.early))
  heard-so =
      by_bits M x.early R ∙ sym (run-append (next M) (line_bits x.lead) (line_bits x.early) new_receiver)
      ∙ ap (receiver_after M new_receiver) (sym (line-append x.lead x.early))

  octet-finds : length content + 2 ≤ M
      → findings M (receiver_after M new_receiver (line_bits (x.lead ++ x.early))) (bits_of 8 last)
      ≡ closed (unit_bits content) ∷ findings M flagged cut.behind
  octet-finds room =
      ap (λ (r : Receiver). findings M r (bits_of 8 last)) (sym heard-so)
      ∙ last-finds M R x.early last (drop n before) cut.behind content cut.is cut.few
      (sym (run-append (next M) (line_bits x.lead) (drop n before) new_receiver) ∙ x.flag-read) room

-- ---- the booking that receives
module _ (r : Settings) (ds : List Call) (v : Receives r ds) where
  abbrev L : Link
  L = link_after (opening r ∷ ds)

  abbrev octets : List ℕ
  octets = (booking_after (opening r ∷ ds)).octets

  settings-are : L.settings ≡ r
  settings-are = (stays r v.range ds v.one).1

  module _ (mid : List ℕ) (last : ℕ) (pool descriptors records : List ℕ) (c : Comes r ds mid last pool descriptors records) where
    abbrev H : Held
    H = record { link = L; pool = pool; descriptors = descriptors }

    used : InUse H
    used =
        record {
          opened = (stays r v.range ds v.one).0;
          formed = (holds_after (opening r ∷ ds)).formed;
          fits =
              lent L.settings.k pool descriptors (c.lent.slots ∙ ap (λ (s : Settings). basic.slot * s.k) (sym settings-are))
              (c.lent.words ∙ ap (λ (s : Settings). 2 * s.k) (sym settings-are));
        }

    -- the receiver just before the last octet
    receiver-then : (board_after r (board H) mid).receiver ≡ receiver_after r.m new_receiver (line_bits (octets ++ mid))
    unfolding board_after
    receiver-then =
        ap (λ (x : Receiver). line_receiver r.m x mid)
        ((histories (opening r ∷ ds)).receiver ∙ ap (λ (s : Settings). receiver_after s.m new_receiver (line_bits octets)) settings-are)
        ∙ by_bits r.m mid (receiver_after r.m new_receiver (line_bits octets))
        ∙ sym (run-append (next r.m) (line_bits octets) (line_bits mid) new_receiver)
        ∙ ap (receiver_after r.m new_receiver) (sym (line-append octets mid))

    taken-so : (content : List ℕ) → Handed H used mid last records c.lent.few c.lent.room content r
    taken-so content =
        subst (Handed H used mid last records c.lent.few c.lent.room content) settings-are
        (handed H used mid last records c.lent.few c.lent.room content)

pub read_back : ReadBack
read_back s cs r ds earlier later content sent v e ok mid last pool descriptors records c x =
    let bits = parts-of (sendings_of s cs) (line_of s cs) (waiting_bits (link_after (opening s ∷ cs))) earlier later content (line-of-calls s cs sent.range sent.one).0 e in
    let heard = (booking_after (opening r ∷ ds)).octets ++ (mid ++ (last ∷ [])) in
    let before = ahead_of (sendings_of s cs) earlier in
    let w = waiting_bits (link_after (opening s ∷ cs)) in
    let same : (booking_after (opening r ∷ ds)).octets ++ mid ≡ x.lead ++ x.early =
    append_cancel_right ((booking_after (opening r ∷ ds)).octets ++ mid) (x.lead ++ x.early) (last ∷ [])
    (append_assoc (booking_after (opening r ∷ ds)).octets mid (last ∷ []) ∙ x.given ∙ sym (append_assoc x.lead x.early (last ∷ []))) in
    taken-so r ds v mid last pool descriptors records c content v.filter-off ok c.free
    (record {
      behind = (cut r.m heard (line_of s cs) before content last x (units_line later) w bits).behind;
      few = (cut r.m heard (line_of s cs) before content last x (units_line later) w bits).few;
      finds =
          ap (λ (y : Receiver). findings r.m y (bits_of 8 last))
          (receiver-then r ds v mid last pool descriptors records c ∙ ap (λ (os : List ℕ). receiver_after r.m new_receiver (line_bits os)) same)
          ∙ octet-finds r.m heard (line_of s cs) before content last x (units_line later) w bits ok.most;
    })

-- ---- all that was sent
-- the units found are good, with their octets
good-ones : (M : ℕ) (us : List (List ℕ)) → AllAllowed M us → good_units (map (λ c. closed (unit_bits c)) us) ≡ map unit_octets us
unfolding good_units
good-ones M [] none = refl
good-ones M (c ∷ us) (more a rest) =
    ap₂ (λ (xs ys : List (List ℕ)). xs ++ ys)
    (ap (if_good (unit_bits c)) (sent-good basic c a.least) ∙ ap {B = List (List ℕ)} (λ (os : List ℕ). os ∷ []) (sent-octets c a.octets))
    (good-ones M us rest)

-- with the filter off each is handed over or lost by its slot
settled-off : (mask : List ℕ) (m : Memory) (u : List ℕ) (free : Bool) → (settled basic false mask m u free).fate ≡ over_or_lost free
unfolding settled
settled-off mask m u true = refl
settled-off mask m u false = refl

fates-from : (mask : List ℕ) (xs : List FilterInput) (m : Memory)
    → outs (memory_next basic false mask) (fate_of basic false mask) m xs ≡ map over_or_lost (slots_found xs)
unfolding slots_found
fates-from mask [] m = refl
fates-from mask (good u free ∷ xs) m =
    ap₂ {C = List Fate} (λ (f : Fate) (fs : List Fate). f ∷ fs) (settled-off mask m u free) (fates-from mask xs (memory_next basic false mask m (good u free)))
fates-from mask (command-4 ∷ xs) m = fates-from mask xs (empty_memory basic)

fates-off : (mask : List ℕ) (xs : List FilterInput) → fates basic false mask xs ≡ map over_or_lost (slots_found xs)
unfolding fates
fates-off mask xs = fates-from mask xs (empty_memory basic)

pub all-read-back : AllReadBack
all-read-back s cs r ds sent v allowed all =
    let w = waiting_bits (link_after (opening s ∷ cs)) in
    let line = line-of-calls s cs sent.range sent.one in
    let us = closed_out (length w) (contents (sendings_of s cs)) in
    let e = settings-are r ds v in
    let found : (booking_after (opening r ∷ ds)).found ≡ map (λ c. closed (unit_bits c)) us =
    (histories (opening r ∷ ds)).found
    ∙ ap₂ (λ (z : Settings) (os : List ℕ). findings z.m new_receiver (line_bits os)) e all
    ∙ stream-found r.m (fills_first (sendings_of s cs)) (contents (sendings_of s cs)) (line_bits (line_of s cs)) w allowed line.0 line.1 in (
      found,
      ap good_units found ∙ good-ones r.m us (closed-allowed r.m (length w) (contents (sendings_of s cs)) allowed),
      ap (λ (z : Settings). fates basic z.filter z.mask (booking_after (opening r ∷ ds)).inputs) e
          ∙ ap (λ (on : Bool). fates basic on r.mask (booking_after (opening r ∷ ds)).inputs) v.filter-off
          ∙ fates-off r.mask (booking_after (opening r ∷ ds)).inputs,
    )
