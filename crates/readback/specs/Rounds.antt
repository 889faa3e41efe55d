-- A line that is read with slots handed back between the calls. The proofs are in proofs/Rounds.antt.
use Rattle.std.specs.Prelude.{ℕ, ◌≤◌, ◌<◌, ◌≡◌, Bool, false, List, [], ◌∷◌, ◌++◌, length}
use Rattle.memory.specs.declared.Status.TheVariants as statuses
use Rattle.bits.specs.Octets.{line_bits}
use Rattle.bits.specs.Machine.{run}
use Rattle.sending.specs.Stream.{stream_line}
use Rattle.memory.specs.Lent.{status_of, status_word}
use Rattle.board.specs.declared.Settings.{Settings}
use Rattle.board.specs.declared.Link.{Link}
use Rattle.link.specs.Calls.{open_answer}
use Rattle.link.specs.Held.{Held, handed_back}
use Rattle.readback.specs.Feeding.{Feed, answer, fed, wrote}
use Rattle.readback.specs.SlotRing.{SlotRing, ring_after, ring_records}
use Rattle.readback.specs.Streams.{AllAllowed, closed_out, just_opened}

-- a receive call, and then the slots that are handed back
pub record Round : Type 0 where
  pub feed : Feed
  pub back : List ℕ

abbrev pub round_done : Held → Round → Held
round_done h t = run handed_back (fed h t.feed) t.back

-- the line octets of all rounds
unfoldable pub octets_of_rounds : List Round → List ℕ
octets_of_rounds [] = []
octets_of_rounds (t ∷ ts) = t.feed.octets ++ octets_of_rounds ts

-- slots are handed back between the calls, so that they suffice: each call is answered 0, finds every slot empty, and writes no more records than there are slots
pub data Roomy : Held → List Round → Type 0 where
  none : {h : Held} → Roomy h []
  more : {h : Held} {t : Round} {ts : List Round} → (answer h t.feed).number ≡ 0
      → ((slot : ℕ) → slot < h.link.settings.k → status_of h.descriptors slot ≡ status_word statuses.Empty)
      → (answer h t.feed).count ≤ h.link.settings.k → Roomy (round_done h t) ts → Roomy h (t ∷ ts)

-- the slots of a link
abbrev pub ring_of : Held → SlotRing
ring_of h = record { next = h.link.units.slots.next; pool = h.pool; descriptors = h.descriptors; good = h.link.units.counts.good }

-- Each call hands over the first of the units that are still to come, and nothing else: their records are all that it writes, and they
-- stand one after the other in the slots, no more of them than there are slots, before those are handed back. Together the calls hand over all
-- of them.
pub data HandsOver : Held → List Round → List (List ℕ) → Type 0 where
  none : {h : Held} → HandsOver h [] []
  more : {h : Held} {t : Round} {ts : List Round} (us vs : List (List ℕ)) → length us ≤ h.link.settings.k
      → wrote h t.feed ≡ ring_records h.link.settings.k (ring_of h) us
      → ring_of (fed h t.feed) ≡ ring_after h.link.settings.k (ring_of h) us
      → HandsOver (round_done h t) ts vs → HandsOver h (t ∷ ts) (us ++ vs)

-- As StreamRead, with slots handed back between the calls: any number of units.
abbrev pub StreamRounds : Type 0
StreamRounds =
    (l : Link) (s : Settings) (pool descriptors : List ℕ) (ts : List Round) (n : ℕ) (cs : List (List ℕ)) (w : List Bool)
    → (open_answer l s pool descriptors).number ≡ 0 → s.filter ≡ false → Roomy (just_opened l s pool descriptors) ts
    → line_bits (octets_of_rounds ts) ++ w ≡ stream_line n cs → length w ≤ 7 → AllAllowed s.m cs
    → HandsOver (just_opened l s pool descriptors) ts (closed_out (length w) cs)
