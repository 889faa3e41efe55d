-- Read-back over lists of calls: what one booking sends, another hands over, whatever other calls either makes from its opening on. The proofs are in
-- proofs/ReadBack.antt.
use Rattle.std.specs.Prelude.{ℕ, ◌+◌, ◌*◌, ◌≤◌, ◌<◌, ◌≡◌, Bool, true, false, cond, List, [], ◌∷◌, ◌++◌, map, length, drop}
use Rattle.bits.specs.Format.{basic}
use Rattle.bits.specs.Octets.{line_bits}
use Rattle.framing.specs.Delimitation.{closed, new_receiver, flagged, receiver_after}
use Rattle.filter.specs.declared.Fate.{Fate}
use Rattle.filter.specs.declared.Fate.TheVariants.{HandedOver, Lost}
use Rattle.filter.specs.History.{FilterInput, good, command-4}
use Rattle.sending.specs.Stuffing.{unit_bits, unit_line}
use Rattle.board.specs.declared.Settings.{Settings}
use Rattle.board.specs.Malformed.{in_range}
use Rattle.units.specs.Units.{is_free}
use Rattle.reception.specs.Line.{board_after}
use Rattle.input.specs.Receive.{board_of, receive_answer}
use Rattle.input.specs.Promises.{written}
use Rattle.transmission.specs.Transmission.{waiting_bits, contents}
use Rattle.readback.specs.SlotRing.{unit_octets}
use Rattle.readback.specs.Streams.{Allowed, AllAllowed, closed_out}
use Rattle.readback.specs.Promises as units
use Rattle.calls.specs.Call.{Call, link_after}
use Rattle.calls.specs.Lending.{opening, Lent}
use Rattle.bookings.specs.Booking.{booking_after}
use Rattle.bookings.specs.History.{good_units, fates_after}
use Rattle.readback_calls.specs.Sender.{one_booking, line_of, sendings_of}

-- ---- the two bookings: any calls from opening on, with no wipe among them; the one that receives has its filter off
pub record Sends (s : Settings) (cs : List Call) : Type 0 where
  pub range : in_range basic s ≡ true
  pub one : one_booking cs ≡ true

pub record Receives (r : Settings) (ds : List Call) : Type 0 where
  pub range : in_range basic r ≡ true
  pub one : one_booking ds ≡ true
  pub filter-off : r.filter ≡ false

-- ---- the line octets that a receiver of longest unit M has been given since its opening: any octets at all (`lead`), then a stretch of the sender's line that
-- begins anywhere before the unit, at any bit offset from it, and ends with the octet `last`, which has the last bit of the unit's closing flag. It
-- has read the flag before the unit when it comes to it.
pub record Heard (M : ℕ) (heard line : List ℕ) (before : List Bool) (content : List ℕ) (last : ℕ) : Type 0 where
  pub lead : List ℕ
  pub skipped : List ℕ
  pub early : List ℕ
  pub later : List ℕ
  pub is : line ≡ skipped ++ (early ++ (last ∷ later))
  pub given : heard ≡ lead ++ (early ++ (last ∷ []))
  pub begins : 8 * length skipped ≤ length before
  pub not_yet : 8 * length (skipped ++ early) < length (before ++ unit_line content)
  pub closes : length (before ++ unit_line content) ≤ 8 * length (skipped ++ early) + 8
  pub flag-read : receiver_after M new_receiver (line_bits lead ++ drop (8 * length skipped) before) ≡ flagged

-- the receive with which that octet comes, lent memory of the sizes asked for, in which the next slot is empty at the moment when the octet comes
pub record Comes (r : Settings) (ds : List Call) (mid : List ℕ) (last : ℕ) (pool descriptors records : List ℕ) : Type 0 where
  pub lent : Lent r.k (mid ++ (last ∷ [])) pool descriptors records
  pub free : is_free (board_after r (board_of (link_after (opening r ∷ ds)) pool descriptors) mid).unit_memory ≡ true

-- ---- read-back of a unit: that receive is answered 0 and hands the unit over: it stands in the slot with its octets, length and status 0, its record of kind 0 is
-- written, and read gives its octets.
abbrev pub ReadBack : Type 0
ReadBack =
    (s : Settings) (cs : List Call) (r : Settings) (ds : List Call) (earlier later : List (List ℕ)) (content : List ℕ)
    → Sends s cs → Receives r ds → contents (sendings_of s cs) ≡ earlier ++ (content ∷ later) → Allowed r.m content
    → (mid : List ℕ) (last : ℕ) (pool descriptors records : List ℕ) → Comes r ds mid last pool descriptors records
    → let l = link_after (opening r ∷ ds) in
    let o = receive_answer l (mid ++ (last ∷ [])) pool descriptors records in
    Heard r.m ((booking_after (opening r ∷ ds)).octets ++ (mid ++ (last ∷ []))) (line_of s cs) (units.ahead_of (sendings_of s cs) earlier) content last
    → (o.number ≡ 0)
    × units.HandedOver (record { link = o.link; pool = o.pool; descriptors = o.descriptors }) (written o)
    (board_after r (board_of l pool descriptors) mid).unit_memory.units.slots.next (unit_octets content)

-- ---- read-back of all that was sent: a booking that has been given exactly the sender's line has found exactly the units whose closing flag is out, in order, all
-- of them good, and nothing else; each was handed over if the next slot was empty, and lost else.
abbrev pub over_or_lost : Bool → Fate
over_or_lost free = cond free HandedOver Lost

unfoldable pub slots_found : List FilterInput → List Bool
slots_found [] = []
slots_found (good u free ∷ xs) = free ∷ slots_found xs
slots_found (command-4 ∷ xs) = slots_found xs

abbrev pub AllReadBack : Type 0
AllReadBack =
    (s : Settings) (cs : List Call) (r : Settings) (ds : List Call) → Sends s cs → Receives r ds → AllAllowed r.m (contents (sendings_of s cs))
    → (booking_after (opening r ∷ ds)).octets ≡ line_of s cs
    → let us = closed_out (length (waiting_bits (link_after (opening s ∷ cs)))) (contents (sendings_of s cs)) in
    ((booking_after (opening r ∷ ds)).found ≡ map (λ c. closed (unit_bits c)) us)
    × (good_units (booking_after (opening r ∷ ds)).found ≡ map unit_octets us)
    × (fates_after (opening r ∷ ds) ≡ map over_or_lost (slots_found (booking_after (opening r ∷ ds)).inputs))
