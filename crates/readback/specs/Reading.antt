-- What is promised of a line that is fed to a link. The proofs are in proofs/Feeding.antt and proofs/Standing.antt.
use Rattle.std.specs.Prelude.{ℕ, ◌+◌, ◌%◌, ◌≤◌, ◌≡◌, Bool, true, false, List, [], ◌∷◌, ◌++◌, length}
use Rattle.memory.specs.declared.Status.TheVariants as statuses
use Rattle.board.specs.Events.{event_bit}
use Rattle.records.specs.declared.RecordKind.TheVariants as kinds
use Rattle.board.specs.declared.events.Event.TheVariants as events
use Rattle.bits.specs.Format.{basic, least_content}
use Rattle.bits.specs.Octets.{line_bits, Octets}
use Rattle.framing.specs.Delimitation.{flagged, receiver_after}
use Rattle.sending.specs.Stuffing.{unit_line}
use Rattle.memory.specs.Lent.{status_of, length_of, slot_of, filled, status_word}
use Rattle.records.specs.Record.{record_of}
use Rattle.units.specs.Units.{unit_of, is_free}
use Rattle.reception.specs.Line.{board_after, line_records}
use Rattle.link.specs.Held.{Held}
use Rattle.readback.specs.Feeding.{board, Feed, held_after, records_fed, octets_fed, Answered}
use Rattle.readback.specs.SlotRing.{unit_octets}

-- Calls that are all answered 0 leave the board, and write the records, of one line.
abbrev pub FedAsOne : Type 0
FedAsOne =
    (h : Held) (fs : List Feed) → Answered h fs
    → (board (held_after h fs) ≡ board_after h.link.settings (board h) (octets_fed fs))
    × (records_fed h fs ≡ line_records h.link.settings (board h) (octets_fed fs))

-- a unit stands in a slot: status 0, its length, its octets and zeros after them
pub record Stands (h : Held) (slot : ℕ) (unit : List ℕ) : Type 0 where
  pub status : status_of h.descriptors slot ≡ status_word statuses.Good
  pub size : length_of h.descriptors slot ≡ length unit
  pub octets : slot_of basic h.pool slot ≡ filled basic unit

-- a record of kind 0 for it is one of those written, behind whole records
pub record Reported (records unit : List ℕ) : Type 0 where
  pub earlier : List ℕ
  pub whole : length earlier % 16 ≡ 0
  pub later : List ℕ
  pub good : ℕ
  pub count : ℕ
  pub raised : Bool
  pub is : records ≡ earlier ++ (record_of (unit_of kinds.HandedOver false unit good false (event_bit events.HandedOver)) count raised ++ later)

-- A line is fed to a link with its filter off, in any cutting. Before the unit stand any bits after which the link's receiver has just
-- read a flag; the octet `last` holds the last bit of the unit's closing flag; the next slot is free before that octet comes. Then the unit
-- stands in that slot, and its record is written.
abbrev pub ReadBackFed : Type 0
ReadBackFed =
    (h : Held) (fs : List Feed) (early : List ℕ) (last : ℕ) (before behind : List Bool) (content : List ℕ)
    → Answered h fs → octets_fed fs ≡ early ++ (last ∷ [])
    → line_bits (early ++ (last ∷ [])) ≡ before ++ (unit_line content ++ behind) → length behind ≤ 7
    → receiver_after h.link.settings.m (board h).receiver before ≡ flagged
    → h.link.settings.filter ≡ false → least_content basic ≤ length content → length content + 2 ≤ h.link.settings.m → Octets content
    → let then = (board_after h.link.settings (board h) early).unit_memory in
    is_free then ≡ true
    → Stands (held_after h fs) then.units.slots.next (unit_octets content) × Reported (records_fed h fs) (unit_octets content)
