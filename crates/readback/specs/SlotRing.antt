-- Units handed over one after the other, with nothing else happening: "it goes to the next slot: octets with check octets, the rest of the
-- 280 zero, length, status; next slot moves on, round the ring", and a record of kind 0 for each.
use Rattle.std.specs.Prelude.{ℕ, false, List, ◌++◌, length}
use Rattle.memory.specs.declared.Status.TheVariants as statuses
use Rattle.board.specs.Events.{event_bit}
use Rattle.records.specs.declared.RecordKind.TheVariants as kinds
use Rattle.board.specs.declared.events.Event.TheVariants as events
use Rattle.bits.specs.Format.{basic}
use Rattle.bits.specs.Machine.{run, outs}
use Rattle.fcs.specs.Check.{check_octets}
use Rattle.memory.specs.Lent.{with_slot, with_descriptor, filled, next_slot, status_word}
use Rattle.records.specs.declared.Happening.{Happening}
use Rattle.records.specs.Record.{record_of}
use Rattle.units.specs.Units.{one_more, unit_of}

-- the octets of a unit: content and its check octets
abbrev pub unit_octets : List ℕ → List ℕ
unit_octets content = content ++ check_octets content

pub record SlotRing : Type 0 where
  pub next : ℕ
  pub pool : List ℕ
  pub descriptors : List ℕ
  pub good : ℕ

-- one unit handed over, of k slots
abbrev pub ring_with : ℕ → SlotRing → List ℕ → SlotRing
ring_with k x content =
    record {
      next = next_slot k x.next;
      pool = with_slot basic x.pool x.next (filled basic (unit_octets content));
      descriptors = with_descriptor x.descriptors x.next (status_word statuses.Good) (length (unit_octets content));
      good = one_more x.good;
    }

abbrev pub handed : SlotRing → List ℕ → Happening
handed x content = unit_of kinds.HandedOver false (unit_octets content) (one_more x.good) false (event_bit events.HandedOver)

-- its record, with the monitor off and its count 0
abbrev pub ring_record : SlotRing → List ℕ → List ℕ
ring_record x content = record_of (handed x content) 0 false

-- units in order, by their contents
unfoldable pub ring_after : ℕ → SlotRing → List (List ℕ) → SlotRing
ring_after k = run (ring_with k)

unfoldable pub ring_records : ℕ → SlotRing → List (List ℕ) → List ℕ
ring_records k = outs (ring_with k) ring_record
