-- Read-back: what `send` and `fill` of one booking put on the line, `receive` of another hands over. The proofs are in proofs/ReadBack.antt and proofs/Filling.antt.
use Rattle.std.specs.Prelude.{ℕ, ◌+◌, ◌*◌, ◌≤◌, ◌<◌, ◌≡◌, Bool, true, false, List, [], ◌∷◌, ◌++◌, length, take, drop, replicate}
use Rattle.bits.specs.Format.{basic}
use Rattle.bits.specs.Octets.{line_bits}
use Rattle.framing.specs.Delimitation.{flagged, receiver_after}
use Rattle.fcs.specs.Check.{check_octets}
use Rattle.sending.specs.Stuffing.{flag, unit_line}
use Rattle.sending.specs.Stream.{flags, flags_before, units_line}
use Rattle.board.specs.declared.Settings.{Settings}
use Rattle.board.specs.declared.Link.{Link}
use Rattle.board.specs.Link.{new_link}
use Rattle.board.specs.Malformed.{in_range}
use Rattle.units.specs.Units.{UnitMemory, is_free}
use Rattle.reception.specs.Line.{board_after}
use Rattle.link.specs.Calls.{Outcome, opened_link, open_answer, read_part}
use Rattle.output.specs.Output.{fill_answer}
use Rattle.transmission.specs.Transmission.{Sending, send, fill, link_after, octets_sent, Accepted, waiting_bits, fills_first, contents}
use Rattle.transmission.specs.Promises.{row1}
use Rattle.link.specs.Held.{Held}
use Rattle.readback.specs.Feeding.{board, Feed, held_after, records_fed, octets_fed}
use Rattle.readback.specs.SlotRing.{unit_octets, ring_after, ring_records}
use Rattle.readback.specs.Reading.{Stands, Reported}
use Rattle.readback.specs.Streams.{Allowed, AllAllowed, closed_out, just_opened, empty_ring}
use Rattle.readback.specs.Using.{InUse, AllSized, AllFitting}
use Rattle.readback.specs.Rounds.{Round, octets_of_rounds, Roomy, HandsOver}

-- ---- the side that sends
-- what is handed to open, and the sends and fills after it
pub record Booking : Type 0 where
  pub link : Link
  pub settings : Settings
  pub pool : List ℕ
  pub descriptors : List ℕ
  pub sendings : List Sending

abbrev pub opening : Booking → Outcome
opening b = open_answer b.link b.settings b.pool b.descriptors

-- they are all answered 0
pub record Sends (b : Booking) : Type 0 where
  pub opens : (opening b).number ≡ 0
  pub accepts : Accepted (opening b).link b.sendings

-- its line octets, and how many bits wait behind them
abbrev pub line : Booking → List ℕ
line b = octets_sent (opening b).link b.sendings

abbrev pub waits : Booking → ℕ
waits b = length (waiting_bits (link_after (opening b).link b.sendings))

-- the bits of the line before the unit that comes after these, up to the flag that opens it
abbrev pub ahead_of : List Sending → List (List ℕ) → List Bool
ahead_of ss earlier = flags (flags_before (fills_first ss) (contents ss)) ++ units_line earlier

abbrev pub ahead : Booking → List (List ℕ) → List Bool
ahead b = ahead_of b.sendings

-- ---- the side that receives
-- A stretch of the line is fed to a link, in any cutting, up to the octet `last` with the last bit of the unit's closing flag. It may begin
-- anywhere before the unit, at any bit offset from it, if the link has read the flag before the unit when it comes to it. The next slot is
-- free at the moment when that last octet comes.
pub record Span (octets : List ℕ) (before : List Bool) (content : List ℕ) (h : Held) (fs : List Feed) : Type 0 where
  pub skipped : List ℕ
  pub early : List ℕ
  pub last : ℕ
  pub later : List ℕ
  pub is : octets ≡ skipped ++ (early ++ (last ∷ later))
  pub fed : octets_fed fs ≡ early ++ (last ∷ [])
  pub begins : 8 * length skipped ≤ length before
  pub not_yet : 8 * length (skipped ++ early) < length (before ++ unit_line content)
  pub closes : length (before ++ unit_line content) ≤ 8 * length (skipped ++ early) + 8
  pub flag-read : receiver_after h.link.settings.m (board h).receiver (drop (8 * length skipped) before) ≡ flagged
  pub free : is_free (board_after h.link.settings (board h) early).unit_memory ≡ true

abbrev pub unit_memory_then : {octets : List ℕ} {before : List Bool} {content : List ℕ} {h : Held} {fs : List Feed}
    → Span octets before content h fs → UnitMemory
unit_memory_then {h = h} x = (board_after h.link.settings (board h) x.early).unit_memory

-- the unit stands in the slot, its record of kind 0 is written, and read gives its octets
pub record HandedOver (h : Held) (records : List ℕ) (slot : ℕ) (unit : List ℕ) : Type 0 where
  pub stands : Stands h slot unit
  pub reported : Reported records unit
  pub read : read_part h.link h.pool h.descriptors slot ≡ unit

-- ---- read-back of a unit
abbrev pub ReadBack : Type 0
ReadBack =
    (b : Booking) (earlier later : List (List ℕ)) (content : List ℕ) → Sends b → contents b.sendings ≡ earlier ++ (content ∷ later)
    → (h : Held) (fs : List Feed) → InUse h → AllSized fs → h.link.settings.filter ≡ false → Allowed h.link.settings.m content
    → (x : Span (line b) (ahead b earlier) content h fs)
    → HandedOver (held_after h fs) (records_fed h fs) (unit_memory_then x).units.slots.next (unit_octets content)

-- the first two octets of the last content, or none before any
unfoldable pub last_sent : List ℕ → List Sending → List ℕ
last_sent last [] = last
last_sent last (send content output ∷ ss) = last_sent (take 2 content) ss
last_sent last (fill output ∷ ss) = last_sent last ss

-- After any sends and fills of the sizes allowed a fill is answered 0. It puts behind the bits that wait the unit of the last content's
-- first two octets and an octet 0; "Before any content it puts out one flag only".
abbrev pub FillSends : Type 0
FillSends =
    (s : Settings) (ss : List Sending) (output : List ℕ) → in_range basic s ≡ true → AllFitting ss → basic.output ≤ length output
    → let l = link_after (opened_link s) ss in
    let o = fill_answer l output in
    let out = line_bits (take o.count o.output) ++ waiting_bits o.link in
    (o.number ≡ 0)
    × ((x y : ℕ) → last_sent [] ss ≡ x ∷ y ∷ [] → out ≡ waiting_bits l ++ unit_line (x ∷ y ∷ 0 ∷ []))
    × (last_sent [] ss ≡ [] → out ≡ waiting_bits l ++ flag)

-- Such a unit is read back as one of five octets.
abbrev pub FillReadBack : Type 0
FillReadBack =
    (b : Booking) (ss₁ ss₂ : List Sending) (output : List ℕ) (x y : ℕ) → Sends b → b.sendings ≡ ss₁ ++ (fill output ∷ ss₂)
    → last_sent [] ss₁ ≡ x ∷ y ∷ []
    → (h : Held) (fs : List Feed) → InUse h → AllSized fs → h.link.settings.filter ≡ false → Allowed h.link.settings.m (x ∷ y ∷ 0 ∷ [])
    → (z : Span (line b) (ahead b (contents ss₁)) (x ∷ y ∷ 0 ∷ []) h fs)
    → HandedOver (held_after h fs) (records_fed h fs) (unit_memory_then z).units.slots.next (x ∷ y ∷ 0 ∷ check_octets (x ∷ y ∷ 0 ∷ []))

-- ---- read-back of all that was sent
-- A fresh booking with its filter off that allows the lengths and has a slot for each unit reads all of the line, in any cutting: it hands over
-- exactly the units whose closing flag is out, in order, and finds nothing else.
abbrev pub AllReadBack : Type 0
AllReadBack =
    (b : Booking) (l : Link) (s : Settings) (pool descriptors : List ℕ) (fs : List Feed)
    → Sends b → (open_answer l s pool descriptors).number ≡ 0 → s.filter ≡ false → AllAllowed s.m (contents b.sendings)
    → AllSized fs → octets_fed fs ≡ line b
    → let us = closed_out (waits b) (contents b.sendings) in
    let h = held_after (just_opened l s pool descriptors) fs in
    length us ≤ s.k
    → (records_fed (just_opened l s pool descriptors) fs ≡ ring_records s.k (empty_ring s.k pool) us)
    × (h.pool ≡ (ring_after s.k (empty_ring s.k pool) us).pool)
    × (h.descriptors ≡ (ring_after s.k (empty_ring s.k pool) us).descriptors)

-- The same for any number of units, if slots are handed back between the calls.
abbrev pub AllReadInRounds : Type 0
AllReadInRounds =
    (b : Booking) (l : Link) (s : Settings) (pool descriptors : List ℕ) (ts : List Round)
    → Sends b → (open_answer l s pool descriptors).number ≡ 0 → s.filter ≡ false → AllAllowed s.m (contents b.sendings)
    → Roomy (just_opened l s pool descriptors) ts → octets_of_rounds ts ≡ line b
    → HandsOver (just_opened l s pool descriptors) ts (closed_out (waits b) (contents b.sendings))

-- An example: the octets of three calls of one booking (`ThreeSent` of transmission), read by another with one slot: the record of the unit whose
-- closing flag is out, and no other.
abbrev pub sample_feed : Feed
sample_feed =
    record {
      octets = 0x7e ∷ 0x1f ∷ 0x04 ∷ 0x06 ∷ 0x6a ∷ 0x11 ∷ 0xfc ∷ 0x3e ∷ 0x08 ∷ 0x00 ∷ 0xb8 ∷ 0xe8 ∷ 0xf8 ∷ [];
      records = replicate 624 0;
    }

abbrev pub SampleRead : Type 0
SampleRead =
    records_fed (just_opened new_link row1 (replicate 280 0) (0 ∷ 0 ∷ [])) (sample_feed ∷ [])
    ≡ 0 ∷ 0 ∷ 5 ∷ 0 ∷ 0 ∷ 0 ∷ 1 ∷ 0 ∷ 0x1f ∷ 2 ∷ 3 ∷ 0xb5 ∷ 0x08 ∷ 0 ∷ 0 ∷ 0 ∷ []
