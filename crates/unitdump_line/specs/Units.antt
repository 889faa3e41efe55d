-- The units handed over and their packets: "one octet at a time", each unit read from its slot, in the order of the records, and handed back.
use Rattle.std.specs.Prelude.{ℕ, zero, suc, ◌+◌, ◌-◌, ◌%◌, ◌^◌, List, [], ◌∷◌, ◌++◌, replicate, Option, ◌≡◌}
use Rattle.std.specs.Io.KnownBytes.{Appends}
use Rattle.bits.specs.Machine.{run, outs}
use Rattle.board.specs.Limits.{most_slots, record_room}
use Rattle.link.specs.Calls.{read_part}
use Rattle.link.specs.Held.{Held, handed_back}
use Rattle.input.specs.Receive.{receive_answer}
use Rattle.unitdump_packets.specs.Packets.{packet_of}
use Rattle.unitdump_line.specs.declared.Dump.{Dump}

-- so many slots, from one on
unfoldable pub slots_from : ℕ → ℕ → List ℕ
slots_from slot zero = []
slots_from slot (suc n) = slot ∷ slots_from (suc slot) n

-- the unit in a slot; no octet where the slot can't be read, as an empty one can't
abbrev pub unit_in : Held → ℕ → List ℕ
unit_in h slot = read_part h.link h.pool h.descriptors slot

-- slots handed back, one after the other, and the packets of the units in them, after so many line octets
unfoldable pub slots_back : Held → List ℕ → Held
slots_back h slots = run handed_back h slots

unfoldable pub slot_packets : ℕ → Held → List ℕ → List ℕ
slot_packets line_octets h slots = outs handed_back (λ h slot. packet_of line_octets (unit_in h slot)) h slots

-- slots handed back, and their units' packets behind what the output held; the bytes that a writer holds are told where they are known
abbrev pub TakesSlots : ℕ → Held → Held → Option (List ℕ) → Option (List ℕ) → List ℕ → Type 0
TakesSlots line_octets before after output output' slots =
    Appends output output' (slot_packets line_octets before slots) × (after ≡ slots_back before slots)

-- all slots, round the ring from one on
abbrev pub ring_from : ℕ → List ℕ
ring_from slot = slots_from slot (most_slots - slot) ++ slots_from 0 slot

-- a booking with its memory, and how many line octets it was given
pub record Taken : Type 0 where
  pub held : Held
  pub octets : ℕ

abbrev pub taken_of : Dump → List ℕ → List ℕ → Taken
taken_of d pool descriptors = record { held = record { link = d.link; pool = pool; descriptors = descriptors }; octets = d.octets }

-- the count goes round to 0 after 64 bits
abbrev pub one_more : ℕ → ℕ
one_more octets = (octets + 1) % 2 ^ 64

-- the booking when a line octet is received, with a clear record area
abbrev pub received : Held → ℕ → Held
received h octet =
    let r = receive_answer h.link (octet ∷ []) h.pool h.descriptors (replicate record_room 0) in
    record { link = r.link; pool = r.pool; descriptors = r.descriptors }

-- the slot that the next unit goes to
abbrev pub next_of : Taken → ℕ
next_of t = t.held.link.units.slots.next

-- One line octet: what it leaves, and the packets of the units that it brings. Units go to the slots round the ring, as their records are
-- written, the first to the slot that was next.
unfoldable pub octet_taken : Taken → ℕ → Taken
octet_taken t octet = record { held = slots_back (received t.held octet) (ring_from (next_of t)); octets = one_more t.octets }

unfoldable pub octet_packets : Taken → ℕ → List ℕ
octet_packets t octet = slot_packets (one_more t.octets) (received t.held octet) (ring_from (next_of t))

-- line octets, one after the other
unfoldable pub all_taken : Taken → List ℕ → Taken
all_taken t octets = run octet_taken t octets

unfoldable pub all_packets : Taken → List ℕ → List ℕ
all_packets t octets = outs octet_taken octet_packets t octets

-- line octets taken, and their packets behind what the output held
abbrev pub Takes : Taken → Taken → Option (List ℕ) → Option (List ℕ) → List ℕ → Type 0
Takes before after output output' octets = Appends output output' (all_packets before octets) × (after ≡ all_taken before octets)
