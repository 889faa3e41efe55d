-- A unit state that meets nothing but good units with a free slot for each: they are handed over one after the other.
use Prim.Native.Nat.{ℕ, suc, ◌+◌, ◌≤◌, ◌<◌}
use mathlib.Core.Path.{◌≡◌, refl, sym, ap, ◌∙◌}
use mathlib.Core.Bool.{Bool, true, false, cond}
use mathlib.Core.List.{List, [], ◌∷◌, ◌++◌, map}
use mathlib.Core.Logic.{◌≢◌}
use native.Mathlib.Omega.{arith}
use borrow.Author.Tests.{eq-eqb, eqb-true, eqb-false}
use lib.Bits.{bit_or}
use lib.Dec.{eqb}
use lib.ListN.{length}
use Rattle.bits.specs.Format.{basic}
use Rattle.memory.specs.declared.Status.TheVariants as statuses
use Rattle.bits.specs.Octets.{bits_of, line_bits}
use Rattle.bits.specs.Machine.{outs}
use Rattle.bits.proofs.Machines.{outs-append}
use Rattle.framing.specs.Delimitation.{Receiver, Finding, closed, next, finds, findings}
use Rattle.sending.specs.Stuffing.{unit_bits}
use Rattle.sending.proofs.Sent.{sent-good, sent-octets}
use Rattle.memory.specs.Lent.{status_of, next_slot, status_word}
use Rattle.memory.proofs.Slots.{descriptor-kept}
use Rattle.monitor.specs.declared.Mode.TheVariants.{Off}
use Rattle.monitor.specs.declared.Limits.{Limits}
use Rattle.monitor.specs.Monitor.{started, step}
use Rattle.board.specs.declared.Settings.{Settings}
use Rattle.records.specs.declared.Happening.{Happening}
use Rattle.board.specs.declared.Supervision.{Supervision}
use Rattle.records.specs.Happening.{noted}
use Rattle.records.specs.Record.{supervision_after, records_of}
use Rattle.units.specs.Indications.{Indication, found, octet_end, octet_receiver, line_indications}
use Rattle.units.specs.Units.{UnitMemory, Effect, ticks, tick_of, octet_effect, effect_of, unit_memory_after, happenings}
use Rattle.readback.specs.SlotRing.{unit_octets, SlotRing, ring_with, handed, ring_record, ring_after, ring_records}
use Rattle.readback.specs.Streams.{Allowed, AllAllowed, more}
use Rattle.readback.proofs.Effects.{over, handed-over}
use Rattle.readback.proofs.Pieces.{found as closings}

-- ---- the findings among indications
abbrev pub found_in : List Indication → List Finding
found_in [] = []
found_in (found f ∷ ms) = f ∷ found_in ms
found_in (octet_end ∷ ms) = found_in ms

-- those of one octet's indications, with more after them
found-octet : (fs : List Finding) (ms : List Indication) → found_in ((map found fs ++ (octet_end ∷ [])) ++ ms) ≡ fs ++ found_in ms
found-octet [] ms = refl
found-octet (f ∷ fs) ms = ap {B = List Finding} (λ x. f ∷ x) (found-octet fs ms)

-- those of a line's indications are what its bits find
pub found-line : (M : ℕ) (xs : List ℕ) (r : Receiver) → found_in (line_indications M r xs) ≡ findings M r (line_bits xs)
unfolding line_indications line_bits
found-line M [] r = refl
found-line M (x ∷ xs) r =
    found-octet (findings M r (bits_of 8 x)) (line_indications M (octet_receiver M r x) xs)
    ∙ ap (λ (fs : List Finding). findings M r (bits_of 8 x) ++ fs) (found-line M xs (octet_receiver M r x))
    ∙ sym (outs-append (next M) (finds M) (bits_of 8 x) (line_bits xs) r)

-- ---- the unit state's slots
abbrev pub ring_of : UnitMemory → SlotRing
ring_of o = record { next = o.units.slots.next; pool = o.pool; descriptors = o.descriptors; good = o.units.counts.good }

-- the next n slots are empty, round the ring
pub record Free (k n : ℕ) (x : SlotRing) : Type 0 where
  pub few : n ≤ k
  pub below : 1 ≤ n → x.next < k
  pub ahead : (j : ℕ) → x.next ≤ j → j < x.next + n → j < k → status_of x.descriptors j ≡ status_word statuses.Empty
  pub round : (j : ℕ) → j + k < x.next + n → status_of x.descriptors j ≡ status_word statuses.Empty

abbrev next_at : ℕ → SlotRing → SlotRing
next_at j x = record { next = j; pool = x.pool; descriptors = x.descriptors; good = x.good }

free-kept : (k n : ℕ) (x : SlotRing) (c : List ℕ) → Free k (suc n) x → Free k n (ring_with k x c)
unfolding next_slot
free-kept k n x c f = go (eqb (x.next + 1) k) refl
  where
    few : suc n ≤ k
    few = f.few

    below : x.next < k
    below = f.below (omega arith)

    other : (j : ℕ) → j ≢ x.next → status_of (ring_with k x c).descriptors j ≡ status_of x.descriptors j
    other j h = (descriptor-kept x.descriptors x.next j 0 (length (unit_octets c)) (omega arith)).0

    go : (b : Bool) → eqb (x.next + 1) k ≡ b → Free k n (next_at (cond b 0 (x.next + 1)) (ring_with k x c))
    go true e =
        let q = eqb-true (x.next + 1) k e in
        record {
          few = omega (arith, few);
          below = λ h. omega (arith, few);
          ahead = λ j l h m. other j (omega (arith, few, q)) ∙ f.round j (omega (arith, q));
          round = λ j h. absurd (omega (arith, few));
        }
    go false e =
        let q = eqb-false (x.next + 1) k e in
        record {
          few = omega (arith, few);
          below = λ h. omega (arith, below, q);
          ahead = λ j l h m. other j (omega arith) ∙ f.ahead j (omega arith) (omega arith) m;
          round = λ j h. other j (omega (arith, few)) ∙ f.round j (omega arith);
        }

-- ---- one unit
unit-over : (s : Settings) (o : UnitMemory) (c : List ℕ) → s.filter ≡ false → Allowed s.m c
    → status_of o.descriptors o.units.slots.next ≡ status_word statuses.Empty
    → effect_of s o (found (closed (unit_bits c))) ≡ over s o (unit_octets c)
unit-over s o c e a f =
    handed-over s o (unit_bits c) (unit_octets c) (sent-good basic c a.least) (sent-octets c a.octets) e
    (eq-eqb (status_of o.descriptors o.units.slots.next) (status_word statuses.Empty) f)

-- ---- units in order
abbrev pub handeds : ℕ → SlotRing → List (List ℕ) → List Happening
handeds k = outs (ring_with k) (λ x c. handed x c ∷ [])

pub record Handed (s : Settings) (o : UnitMemory) (ms : List Indication) (cs : List (List ℕ)) : Type 0 where
  pub all : happenings s o ms ≡ handeds s.k (ring_of o) cs
  pub ring : ring_of (unit_memory_after s o ms) ≡ ring_after s.k (ring_of o) cs
  pub still : (unit_memory_after s o ms).units.counting.on ≡ false

no-tick : (due on : Bool) (h : Happening) → on ≡ false → ticks due on h ≡ []
no-tick true on h e = rw e
no-tick false on h e = refl

module _ (s : Settings) (off : s.filter ≡ false) where
  pub all-handed : (ms : List Indication) (cs : List (List ℕ)) (o : UnitMemory) → AllAllowed s.m cs → Free s.k (length cs) (ring_of o)
      → o.units.counting.on ≡ false → found_in ms ≡ closings cs → Handed s o ms cs
  unfolding happenings unit_memory_after ring_after effect_of octet_effect
  all-handed [] [] o a f q e = record { all = refl; ring = refl; still = q }
  all-handed [] (c ∷ cs) o a f q e = cc
  all-handed (octet_end ∷ ms) cs o a f q e =
      let quiet = no-tick (eqb o.units.counting.left 1) o.units.counting.on (tick_of o.units.counts.good) q in
      let r = all-handed ms cs (octet_effect s o).unit_memory a f q e in
      record {
        all = ap (λ (hs : List Happening). hs ++ happenings s (octet_effect s o).unit_memory ms) quiet ∙ r.all;
        ring = r.ring;
        still = r.still;
      }
  all-handed (found g ∷ ms) [] o a f q e = cc
  all-handed (found g ∷ ms) (c ∷ cs) o (more a rest) f q e =
      let g-is : g ≡ closed (unit_bits c) = cc in
      let ms-are : found_in ms ≡ closings cs = cc in
      let empty = f.ahead o.units.slots.next (omega arith) (omega arith) (f.below (omega arith)) in
      let is : effect_of s o (found g) ≡ over s o (unit_octets c) = ap (λ (x : Finding). effect_of s o (found x)) g-is ∙ unit-over s o c off a empty in
      let r = all-handed ms cs (over s o (unit_octets c)).unit_memory rest (free-kept s.k (length cs) (ring_of o) c f) refl ms-are in
      record {
        all =
            ap (λ (x : Effect). x.happenings ++ happenings s x.unit_memory ms) is
            ∙ ap {B = List Happening} (λ hs. handed (ring_of o) c ∷ hs) r.all;
        ring = ap (λ (x : Effect). ring_of (unit_memory_after s x.unit_memory ms)) is ∙ r.ring;
        still = ap (λ (x : Effect). (unit_memory_after s x.unit_memory ms).units.counting.on) is ∙ r.still;
      }

-- ---- their records, with the monitor off
abbrev pub unsupervised : ℕ → Supervision
unsupervised events = record { monitor = started Off; events = events }

pub handed-records : (k : ℕ) (l : Limits) (cs : List (List ℕ)) (x : SlotRing) (events : ℕ)
    → records_of l (unsupervised events) (handeds k x cs) ≡ ring_records k x cs
unfolding records_of ring_records noted step
handed-records k l [] x events = refl
handed-records k l (c ∷ cs) x events =
    ap (λ (rs : List ℕ). ring_record x c ++ rs) (handed-records k l cs (ring_with k x c) (bit_or (bit_or events 1) 0))

-- and it stays off
pub handed-unsupervised : (k : ℕ) (l : Limits) (cs : List (List ℕ)) (x : SlotRing) (events : ℕ)
    → (supervision_after l (unsupervised events) (handeds k x cs)).monitor ≡ started Off
unfolding supervision_after noted step
handed-unsupervised k l [] x events = refl
handed-unsupervised k l (c ∷ cs) x events = handed-unsupervised k l cs (ring_with k x c) (bit_or (bit_or events 1) 0)
