-- "What happens to a closed unit, in order", and octet counting: the front end, which gives happenings and never looks at the monitor.
use Rattle.std.specs.Prelude.{ℕ, ◌+◌, ◌-◌, ◌%◌, ◌^◌, Bool, true, false, cond, ◌&&◌, ◌||◌, List, [], ◌∷◌, ◌++◌, length, take, ◌==◌, nat_eq}
use Rattle.bits.specs.Octets.{whole_octets}
use Rattle.bits.specs.Format.{basic}
use Rattle.bits.specs.Machine.{run, outs}
use Rattle.framing.specs.declared.Verdict.{Verdict}
use Rattle.framing.specs.declared.Verdict.TheVariants.{Short, NotWhole, CheckWrong, Good}
use Rattle.framing.specs.Delimitation.{Finding, closed, abort, long}
use Rattle.framing.specs.Verdict.{verdict_of}
use Rattle.filter.specs.declared.Fate.{Fate}
use Rattle.filter.specs.declared.Fate.TheVariants.{HandedOver, Dropped, Lost}
use Rattle.filter.specs.declared.Memory.{Memory}
use Rattle.filter.specs.Memory.{settled}
use Rattle.memory.specs.declared.Status.{Status}
use Rattle.memory.specs.declared.Status.TheVariants as statuses
use Rattle.memory.specs.Lent.{status_word, status_of, with_slot, with_descriptor, filled, next_slot}
use Rattle.board.specs.declared.Settings.{Settings}
use Rattle.board.specs.declared.Counting.{Counting}
use Rattle.board.specs.declared.Counts.{Counts}
use Rattle.board.specs.declared.events.Event.TheVariants as events
use Rattle.board.specs.Events.{event_bit}
use Rattle.records.specs.declared.RecordKind.{RecordKind}
use Rattle.records.specs.declared.RecordKind.TheVariants as kinds
use Rattle.records.specs.declared.Happening.{Happening}
use Rattle.board.specs.declared.UnitState.{UnitState}
use Rattle.units.specs.declared.Taken.{Taken}
use Rattle.units.specs.Indications.{Indication, found, octet_end}

-- the state of units and the lent memory
pub record UnitMemory : Type 0 where
  pub units : UnitState
  pub pool : List ℕ
  pub descriptors : List ℕ

abbrev pub unit_memory : UnitState → List ℕ → List ℕ → UnitMemory
unit_memory d pool descriptors = record { units = d; pool = pool; descriptors = descriptors }

-- what one indication makes of it
pub record Effect : Type 0 where
  pub unit_memory : UnitMemory
  pub happenings : List Happening

abbrev pub effect : UnitMemory → List Happening → Effect
effect o hs = record { unit_memory = o; happenings = hs }

abbrev pub unit_state_of : Counting → Memory → ℕ → Counts → UnitState
unit_state_of c m next n = record { counting = c; memory = m; slots = record { next = next }; counts = n }

-- "16 bits, goes round to 0 after 65,535"
abbrev pub one_more : ℕ → ℕ
one_more n = (n + 1) % 2 ^ 16

-- octet counting begins if a switch is on
abbrev pub begins : Bool → Counting → Counting
begins switch c = record { on = switch || c.on; left = c.left }

-- "first five octets, zero filled"
abbrev pub first_five : List ℕ → List ℕ
first_five octets = take 5 (octets ++ (0 ∷ 0 ∷ 0 ∷ 0 ∷ 0 ∷ []))

-- a closed unit that is an event
abbrev pub unit_of : RecordKind → Bool → List ℕ → ℕ → Bool → ℕ → Happening
unit_of kind lost octets good errored bits =
    record { kind = kind; lost = lost; length = length octets; first = first_five octets; good = good; event = true; errored = errored; bits = bits }

-- what is no event
abbrev pub bare_of : RecordKind → List ℕ → ℕ → ℕ → Happening
bare_of kind octets good bits =
    record { kind = kind; lost = false; length = length octets; first = first_five octets; good = good; event = false; errored = false; bits = bits }

-- the next slot is empty
abbrev pub is_free : UnitMemory → Bool
is_free o = status_of o.descriptors o.units.slots.next == status_word statuses.Empty

-- "it goes to the next slot [..]: octets with check octets, the rest of the 280 zero, length, status; next slot moves on, round the ring"
abbrev pub hand_over : ℕ → Status → List ℕ → UnitMemory → UnitState → UnitMemory
hand_over k status octets o d =
    unit_memory (unit_state_of d.counting d.memory (next_slot k d.slots.next) d.counts)
    (with_slot basic o.pool d.slots.next (filled basic octets)) (with_descriptor o.descriptors d.slots.next (status_word status) (length octets))

-- ---- a good unit
-- "the good count, 16 bits, goes round to 0 after 65,535", "Three more 16-bit counts go round likewise: good units handed over, dropped, lost."
abbrev pub counted : Fate → Counts → Counts
counted HandedOver c = record { good = one_more c.good; over = one_more c.over; dropped = c.dropped; lost = c.lost }
counted Dropped c = record { good = one_more c.good; over = c.over; dropped = one_more c.dropped; lost = c.lost }
counted Lost c = record { good = one_more c.good; over = c.over; dropped = c.dropped; lost = one_more c.lost }

abbrev pub by_fate : Fate → Effect → Effect → Effect → Effect
by_fate HandedOver a b c = a
by_fate Dropped a b c = b
by_fate Lost a b c = c

-- "1. A good unit ends octet counting; the good count [..]. 3. A good unit goes to the filter. 4. If not dropped, it goes to the next
-- slot if that is empty [..]. If it isn't empty the unit is lost (BSY); with orn on, octet counting begins."
unfoldable pub good_unit : Settings → UnitMemory → List ℕ → Effect
good_unit s o octets =
    let d = o.units in
    let off : Counting = record { on = false; left = d.counting.left } in
    let good = one_more d.counts.good in
    let st = settled basic s.filter s.mask d.memory octets (is_free o) in
    by_fate st.fate
    (effect (hand_over s.k statuses.Good octets o (unit_state_of off st.memory d.slots.next (counted HandedOver d.counts)))
    (unit_of kinds.HandedOver false octets good false (event_bit events.HandedOver) ∷ []))
    (effect (unit_memory (unit_state_of off st.memory d.slots.next (counted Dropped d.counts)) o.pool o.descriptors)
    (unit_of kinds.Dropped false octets good false 0 ∷ []))
    (effect (unit_memory (unit_state_of (begins s.orn off) st.memory d.slots.next (counted Lost d.counts)) o.pool o.descriptors)
    (unit_of kinds.Lost true octets good false (event_bit events.Busy) ∷ []))

-- ---- a unit with an error, of this status and kind: it goes to the next slot too, or is lost
unfoldable pub errored_unit : Settings → UnitMemory → Status → RecordKind → List ℕ → Effect
errored_unit s o status kind octets =
    let d = o.units in
    cond (is_free o) (effect (hand_over s.k status octets o d) (unit_of kind false octets d.counts.good true (event_bit events.HandedOver) ∷ []))
    (effect (unit_memory (unit_state_of (begins s.orn d.counting) d.memory d.slots.next d.counts) o.pool o.descriptors)
    (unit_of kind true octets d.counts.good true (event_bit events.Busy) ∷ []))

-- ---- a closed unit: "only its whole octets are kept"
abbrev pub by_verdict : Verdict → Effect → Effect → Effect → Effect → Effect
by_verdict Short a b c d = a
by_verdict NotWhole a b c d = b
by_verdict CheckWrong a b c d = c
by_verdict Good a b c d = d

abbrev pub short_taken : UnitState → List ℕ → Taken
short_taken d octets = record { units = d; happening = bare_of kinds.Short octets d.counts.good 0 }

unfoldable pub closed_unit : Settings → UnitMemory → List Bool → Effect
closed_unit s o u =
    by_verdict (verdict_of basic u) (effect o ((short_taken o.units (whole_octets u)).happening ∷ [])) (errored_unit s o statuses.NotWhole kinds.NotWhole (whole_octets u))
    (errored_unit s o statuses.CheckWrong kinds.CheckWrong (whole_octets u)) (good_unit s o (whole_octets u))

-- ---- "begins at a long unit or an abort (itu on)"
abbrev pub broken : Settings → UnitMemory → RecordKind → ℕ → Effect
broken s o kind bits =
    let d = o.units in
    effect (unit_memory (unit_state_of (begins s.itu d.counting) d.memory d.slots.next d.counts) o.pool o.descriptors)
    (bare_of kind [] d.counts.good bits ∷ [])

abbrev pub finding_effect : Settings → UnitMemory → Finding → Effect
finding_effect s o (closed u) = closed_unit s o u
finding_effect s o abort = broken s o kinds.Abort (event_bit events.Abort)
finding_effect s o long = broken s o kinds.Long (event_bit events.Long)

-- ---- "The counter runs at all times from N downward, once for each line octet after its eight bits. At zero it reloads; in octet
-- counting that is one errored event and sets OCT."
abbrev pub tick_of : ℕ → Happening
tick_of good = record { kind = kinds.Tick; lost = false; length = 0; first = 0 ∷ 0 ∷ 0 ∷ 0 ∷ 0 ∷ []; good = good; event = true; errored = true; bits = event_bit events.OctetTick }

abbrev pub ticks : Bool → Bool → Happening → List Happening
ticks due on h = cond (due && on) (h ∷ []) []

unfoldable pub octet_effect : Settings → UnitMemory → Effect
octet_effect s o =
    let d = o.units in
    let due = nat_eq d.counting.left 1 in
    effect
    (unit_memory (unit_state_of (record { on = d.counting.on; left = cond due s.n (d.counting.left - 1) }) d.memory d.slots.next d.counts) o.pool o.descriptors)
    (ticks due d.counting.on (tick_of d.counts.good))

unfoldable pub effect_of : Settings → UnitMemory → Indication → Effect
effect_of s o (found f) = finding_effect s o f
effect_of s o octet_end = octet_effect s o

abbrev pub next_unit_memory : Settings → UnitMemory → Indication → UnitMemory
next_unit_memory s o m = (effect_of s o m).unit_memory

abbrev pub happens : Settings → UnitMemory → Indication → List Happening
happens s o m = (effect_of s o m).happenings

-- over indications
unfoldable pub unit_memory_after : Settings → UnitMemory → List Indication → UnitMemory
unit_memory_after s = run (next_unit_memory s)

unfoldable pub happenings : Settings → UnitMemory → List Indication → List Happening
happenings s = outs (next_unit_memory s) (happens s)
