-- What is promised of a transmitter's line that a fresh booking reads. The proofs are in proofs/Stream.antt.
use Rattle.std.specs.Prelude.{ℕ, zero, suc, ◌+◌, ◌≤◌, ◌≡◌, Bool, false, List, [], ◌∷◌, ◌++◌, length}
use Rattle.bits.specs.Format.{basic, least_content}
use Rattle.bits.specs.Octets.{line_bits, Octets}
use Rattle.sending.specs.Stream.{stream_line}
use Rattle.memory.specs.Lent.{empty_descriptors}
use Rattle.board.specs.declared.Settings.{Settings}
use Rattle.board.specs.declared.Link.{Link}
use Rattle.link.specs.Calls.{open_answer}
use Rattle.link.specs.Held.{Held}
use Rattle.readback.specs.Feeding.{Feed, held_after, records_fed, octets_fed, Answered}
use Rattle.readback.specs.SlotRing.{SlotRing, ring_after, ring_records}

-- content that can be sent, and that a receiver with longest unit M allows with its check octets
pub record Allowed (M : ℕ) (content : List ℕ) : Type 0 where
  pub least : least_content basic ≤ length content
  pub most : length content + 2 ≤ M
  pub octets : Octets content

pub data AllAllowed (M : ℕ) : List (List ℕ) → Type 0 where
  none : AllAllowed M []
  more : {c : List ℕ} {cs : List (List ℕ)} → Allowed M c → AllAllowed M cs → AllAllowed M (c ∷ cs)

-- the units whose closing flag is out, with so many bits waiting: if any waits, the last unit's flag is not
unfoldable pub all_but_last : List (List ℕ) → List (List ℕ)
all_but_last [] = []
all_but_last (c ∷ []) = []
all_but_last (c ∷ d ∷ cs) = c ∷ all_but_last (d ∷ cs)

abbrev pub closed_out : ℕ → List (List ℕ) → List (List ℕ)
closed_out zero cs = cs
closed_out (suc n) cs = all_but_last cs

-- a booking just opened, and its slots
abbrev pub just_opened : Link → Settings → List ℕ → List ℕ → Held
just_opened l s pool descriptors =
    let o = open_answer l s pool descriptors in record { link = o.link; pool = o.pool; descriptors = o.descriptors }

abbrev pub empty_ring : ℕ → List ℕ → SlotRing
empty_ring k pool = record { next = 0; pool = pool; descriptors = empty_descriptors k; good = 0 }

-- A fresh booking with its filter off that allows the lengths and has slots enough is fed the octets of a transmitter's line, of which
-- the bits w are still waiting, in any cutting. It hands over exactly the units whose closing flag is out, in order: their records are all
-- that is written, and they stand one after the other in the slots.
abbrev pub StreamRead : Type 0
StreamRead =
    (l : Link) (s : Settings) (pool descriptors : List ℕ) (fs : List Feed) (n : ℕ) (cs : List (List ℕ)) (w : List Bool)
    → (open_answer l s pool descriptors).number ≡ 0 → s.filter ≡ false → Answered (just_opened l s pool descriptors) fs
    → line_bits (octets_fed fs) ++ w ≡ stream_line n cs → length w ≤ 7 → AllAllowed s.m cs
    → let us = closed_out (length w) cs in
    let h = held_after (just_opened l s pool descriptors) fs in
    length us ≤ s.k
    → (records_fed (just_opened l s pool descriptors) fs ≡ ring_records s.k (empty_ring s.k pool) us)
    × (h.pool ≡ (ring_after s.k (empty_ring s.k pool) us).pool)
    × (h.descriptors ≡ (ring_after s.k (empty_ring s.k pool) us).descriptors)
