-- A line octet that closes one good unit, with the next slot free and the filter off: the unit stands in that slot, and is reported.
use Prim.Native.Nat.{ℕ, ◌%◌, ◌≤◌}
use mathlib.Core.Path.{◌≡◌, refl, ap, ◌∙◌}
use mathlib.Core.Bool.{Bool, true, false}
use mathlib.Core.List.{List, [], ◌∷◌, ◌++◌, map}
use native.Mathlib.Omega.{arith}
use lib.ListN.{length}
use Rattle.filter.specs.declared.Fate.TheVariants.{HandedOver}
use Rattle.memory.specs.declared.Status.TheVariants as statuses
use Rattle.board.specs.Events.{event_bit}
use Rattle.records.specs.declared.RecordKind.TheVariants as kinds
use Rattle.board.specs.declared.events.Event.TheVariants as events
use Rattle.board.specs.Limits.{monitor_limits}
use Rattle.bits.specs.Octets.{bits_of, whole_octets}
use Rattle.bits.specs.Format.{basic}
use Rattle.framing.specs.declared.Verdict.TheVariants.{Good}
use Rattle.framing.specs.Delimitation.{Finding, closed, abort, long, findings}
use Rattle.framing.specs.Verdict.{verdict_of}
use Rattle.filter.specs.Memory.{empty_memory, settled}
use Rattle.memory.specs.Lent.{status_of, length_of, slot_of, with_slot, with_descriptor, filled}
use Rattle.memory.proofs.Slots.{slot-written, descriptor-written, filled-length}
use Rattle.board.specs.declared.Settings.{Settings}
use Rattle.board.specs.declared.Counting.{Counting}
use Rattle.records.specs.declared.Happening.{Happening}
use Rattle.board.specs.declared.Supervision.{Supervision}
use Rattle.records.specs.Happening.{noted}
use Rattle.records.specs.Record.{supervised, records_of}
use Rattle.units.specs.Indications.{Indication, found, octet_end, line_indications}
use Rattle.units.specs.InnerFit.{Fits}
use Rattle.units.specs.Units.{UnitMemory, Effect, effect, unit_state_of, one_more, unit_of, is_free, hand_over, counted, good_unit, closed_unit, octet_effect, effect_of, next_unit_memory, unit_memory_after, happenings}
use Rattle.reception.specs.Line.{Board, board_after, line_happenings, line_records}
use Rattle.reception.proofs.Octets.{single-octet}
use Rattle.link.specs.Held.{Held}
use Rattle.readback.specs.Feeding.{board}
use Rattle.readback.specs.Reading.{Stands, Reported}
use Rattle.readback.proofs.Gathered.{Unclosed, none, aborted, overlong}

-- ---- what closes no unit leaves the lent memory alone
record Same (o o' : UnitMemory) : Type 0 where
  pool : o'.pool ≡ o.pool
  descriptors : o'.descriptors ≡ o.descriptors

octet-end : (s : Settings) (o : UnitMemory) → Same o (unit_memory_after s o (octet_end ∷ []))
unfolding unit_memory_after effect_of octet_effect
octet-end s o = record { pool = refl; descriptors = refl }

rest-same : (s : Settings) (fs : List Finding) (o : UnitMemory) → Unclosed fs → Same o (unit_memory_after s o (map found fs ++ (octet_end ∷ [])))
unfolding unit_memory_after effect_of
rest-same s [] o none = octet-end s o
rest-same s (abort ∷ fs) o (aborted u) = let k = rest-same s fs (next_unit_memory s o (found abort)) u in record { pool = k.pool; descriptors = k.descriptors }
rest-same s (long ∷ fs) o (overlong u) = let k = rest-same s fs (next_unit_memory s o (found long)) u in record { pool = k.pool; descriptors = k.descriptors }
rest-same s (closed _ ∷ fs) o x4 = elim x4 [ ]

-- ---- the good unit: of these octets, handed over
abbrev pub over : Settings → UnitMemory → List ℕ → Effect
over s o os =
    let d = o.units in
    let off : Counting = record { on = false; left = d.counting.left } in
    effect (hand_over s.k statuses.Good os o (unit_state_of off (empty_memory basic) d.slots.next (counted HandedOver d.counts)))
    (unit_of kinds.HandedOver false os (one_more d.counts.good) false (event_bit events.HandedOver) ∷ [])

pub handed-over : (s : Settings) (o : UnitMemory) (u : List Bool) (os : List ℕ) → verdict_of basic u ≡ Good → whole_octets u ≡ os → s.filter ≡ false
    → is_free o ≡ true → effect_of s o (found (closed u)) ≡ over s o os
unfolding effect_of closed_unit good_unit settled
handed-over s o u os good octets off free = rw (good, octets, off, free)

-- ---- its octet
module _ (s : Settings) (b : Board) (last : ℕ) (u : List Bool) (fs : List Finding) (os : List ℕ)
    (finds : findings s.m b.receiver (bits_of 8 last) ≡ closed u ∷ fs) (others : Unclosed fs)
    (good : verdict_of basic u ≡ Good) (octets : whole_octets u ≡ os) (few : length os ≤ 280)
    (off : s.filter ≡ false) (free : is_free b.unit_memory ≡ true) (fits : Fits s b.unit_memory.units b.unit_memory.pool b.unit_memory.descriptors) where
  abbrev rest : List Indication
  rest = map found fs ++ (octet_end ∷ [])

  indications : line_indications s.m b.receiver (last ∷ []) ≡ found (closed u) ∷ rest
  indications = single-octet s.m b.receiver last ∙ ap (λ (x : List Finding). map found x ++ (octet_end ∷ [])) finds

  abbrev slot : ℕ
  slot = b.unit_memory.units.slots.next

  abbrev this : Effect
  this = over s b.unit_memory os

  unit-memory-then : (board_after s b (last ∷ [])).unit_memory ≡ unit_memory_after s this.unit_memory rest
  unfolding board_after unit_memory_after
  unit-memory-then =
      ap (unit_memory_after s b.unit_memory) indications
      ∙ ap (λ (x : Effect). unit_memory_after s x.unit_memory rest) (handed-over s b.unit_memory u os good octets off free)

  pool-then : (board_after s b (last ∷ [])).unit_memory.pool ≡ with_slot basic b.unit_memory.pool slot (filled basic os)
  pool-then = ap (λ (o : UnitMemory). o.pool) unit-memory-then ∙ (rest-same s fs this.unit_memory others).pool

  descriptors-then : (board_after s b (last ∷ [])).unit_memory.descriptors ≡ with_descriptor b.unit_memory.descriptors slot 0 (length os)
  descriptors-then = ap (λ (o : UnitMemory). o.descriptors) unit-memory-then ∙ (rest-same s fs this.unit_memory others).descriptors

  written : (status_of (with_descriptor b.unit_memory.descriptors slot 0 (length os)) slot ≡ 0)
      × (length_of (with_descriptor b.unit_memory.descriptors slot 0 (length os)) slot ≡ length os)
  written = descriptor-written b.unit_memory.descriptors slot 0 (length os) (omega (arith, fits.words, fits.next))

  -- so it stands in what any link holds that has this board
  pub stands : (h : Held) → board h ≡ board_after s b (last ∷ []) → Stands h slot os
  stands h e =
      record {
        status = ap (λ (x : Board). status_of x.unit_memory.descriptors slot) e ∙ ap (λ (d : List ℕ). status_of d slot) descriptors-then ∙ written.0;
        size = ap (λ (x : Board). length_of x.unit_memory.descriptors slot) e ∙ ap (λ (d : List ℕ). length_of d slot) descriptors-then ∙ written.1;
        octets =
            ap (λ (x : Board). slot_of basic x.unit_memory.pool slot) e ∙ ap (λ (p : List ℕ). slot_of basic p slot) pool-then
            ∙ slot-written basic b.unit_memory.pool (filled basic os) slot (filled-length basic os few) (omega (arith, fits.octets, fits.next));
      }

  -- ---- and its record
  abbrev happening : Happening
  happening = unit_of kinds.HandedOver false os (one_more b.unit_memory.units.counts.good) false (event_bit events.HandedOver)

  abbrev later : List Happening
  later = happenings s this.unit_memory rest

  happenings-then : line_happenings s b (last ∷ []) ≡ happening ∷ later
  unfolding line_happenings happenings
  happenings-then =
      ap (happenings s b.unit_memory) indications
      ∙ ap (λ (x : Effect). x.happenings ++ happenings s x.unit_memory rest) (handed-over s b.unit_memory u os good octets off free)

  abbrev seen : Supervision
  seen = b.supervision

  pub reported : (records earlier : List ℕ) → length earlier % 16 ≡ 0 → records ≡ earlier ++ line_records s b (last ∷ []) → Reported records os
  unfolding line_records records_of
  reported records earlier whole e =
      record {
        earlier = earlier;
        whole = whole;
        later = records_of (monitor_limits s) (supervised (monitor_limits s) seen happening) later;
        good = one_more b.unit_memory.units.counts.good;
        count = (noted (monitor_limits s) seen happening).supervision.monitor.count;
        raised = (noted (monitor_limits s) seen happening).raised;
        is = e ∙ ap (λ (hs : List Happening). earlier ++ records_of (monitor_limits s) seen hs) happenings-then;
      }
