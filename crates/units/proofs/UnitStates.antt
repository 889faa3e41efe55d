-- The laws of the unit state that specs/Promises.antt states: each holds of every way that an indication can go.
use Rattle.std.proofs.Common.{◌≡◌, ℕ, ◌+◌, ◌-◌, ◌*◌, ◌≤◌, Bool, true, false, cond, eqb, List, [], ◌∷◌, length, refl, ◌∙◌, arith}
use borrow.Author.Tests.{eqb-false}
use Rattle.bits.specs.Octets.{whole_octets}
use Rattle.bits.specs.Format.{basic}
use Rattle.bits.proofs.Machines.{run-append, outs-append}
use Rattle.bits.proofs.Whole.{length_whole}
use Rattle.framing.specs.declared.Verdict.{Verdict}
use Rattle.framing.specs.declared.Verdict.TheVariants.{Short, NotWhole, CheckWrong, Good}
use Rattle.framing.specs.Verdict.{verdict_of}
use Rattle.framing.specs.Delimitation.{Finding, closed, abort, long}
use Rattle.filter.specs.declared.Fate.{Fate}
use Rattle.filter.specs.declared.Fate.TheVariants.{HandedOver, Dropped, Lost}
use Rattle.filter.specs.declared.Memory.{Memory}
use Rattle.filter.specs.Memory.{settled}
use Rattle.memory.specs.declared.Status.{Status}
use Rattle.memory.specs.declared.Status.TheVariants as statuses
use Rattle.memory.specs.Lent.{status_word, filled}
use Rattle.memory.proofs.Slots.{pool-length, descriptors-length, filled-length, next-below}
use Rattle.board.specs.declared.Settings.{Settings}
use Rattle.board.specs.declared.Counting.{Counting}
use Rattle.board.specs.declared.Counts.{Counts}
use Rattle.board.specs.declared.events.Event.TheVariants as events
use Rattle.board.specs.Events.{event_bit}
use Rattle.records.specs.declared.RecordKind.{RecordKind}
use Rattle.records.specs.declared.RecordKind.TheVariants as kinds
use Rattle.records.specs.declared.Happening.{Happening}
use Rattle.records.specs.Promises.{FirstFive, none, more as five-more}
use Rattle.units.specs.Indications.{found, octet_end}
use Rattle.units.specs.Units.{UnitMemory, Effect, unit_memory, effect, unit_state_of, first_five, begins, unit_of, is_free, one_more, counted, short_taken, hand_over, by_fate, by_verdict, ticks, good_unit, errored_unit, closed_unit, octet_effect, effect_of, unit_memory_after, happenings, next_unit_memory, happens}
use Rattle.units.specs.InnerFit.{Fits}
use Rattle.units.specs.Promises.{FitKept, OneFound, OneAtMost, FirstFives, Sums, SumKept, SumAfter, UnitMemoryAppend, HappeningsAppend}
use Rattle.units.proofs.FirstFive.{five-length}

-- ---- what holds of each way holds of the way taken
pub each-fate : (P : Effect → Type 0) (f : Fate) {a b c : Effect} → P a → P b → P c → P (by_fate f a b c)
each-fate P HandedOver x y z = x
each-fate P Dropped x y z = y
each-fate P Lost x y z = z

pub each-cond : (P : Effect → Type 0) (t : Bool) {a b : Effect} → P a → P b → P (cond t a b)
each-cond P true x y = x
each-cond P false x y = y

pub each-verdict : (P : Effect → Type 0) (v : Verdict) {a b c d : Effect} → P a → P b → P c → P d → P (by_verdict v a b c d)
each-verdict P Short x y z w = x
each-verdict P NotWhole x y z w = y
each-verdict P CheckWrong x y z w = z
each-verdict P Good x y z w = w

pub each-tick : (P : List Happening → Type 0) (a b : Bool) {h : Happening} → P (h ∷ []) → P [] → P (ticks a b h)
each-tick P true true x y = x
each-tick P true false x y = y
each-tick P false b x y = y

pub each-closed : (P : Effect → Type 0) (s : Settings) (o : UnitMemory) (u : List Bool)
    → P (effect o ((short_taken o.units (whole_octets u)).happening ∷ [])) → ((status : Status) (kind : RecordKind) → P (errored_unit s o status kind (whole_octets u)))
    → P (good_unit s o (whole_octets u)) → P (closed_unit s o u)
unfolding closed_unit
each-closed P s o u short errored good = each-verdict P (verdict_of basic u) short (errored statuses.NotWhole kinds.NotWhole) (errored statuses.CheckWrong kinds.CheckWrong) good

-- a unit state that has stored no unit, and one that has
abbrev stayed : UnitMemory → Counting → Memory → Counts → Happening → Effect
stayed o c m n h = effect (unit_memory (unit_state_of c m o.units.slots.next n) o.pool o.descriptors) (h ∷ [])

abbrev storing : Settings → UnitMemory → Status → List ℕ → Counting → Memory → Counts → Happening → Effect
storing s o status os c m n h = effect (hand_over s.k status os o (unit_state_of c m o.units.slots.next n)) (h ∷ [])

module _ (P : Effect → Type 0) (s : Settings) (o : UnitMemory) (os : List ℕ) where
  pub each-errored : (status : Status) (kind : RecordKind)
      → P (storing s o status os o.units.counting o.units.memory o.units.counts (unit_of kind false os o.units.counts.good true (event_bit events.HandedOver)))
      → P (stayed o (begins s.orn o.units.counting) o.units.memory o.units.counts (unit_of kind true os o.units.counts.good true (event_bit events.Busy)))
      → P (errored_unit s o status kind os)
  unfolding errored_unit
  each-errored status kind over lost = each-cond P (is_free o) over lost

  abbrev off : Counting
  off = record { on = false; left = o.units.counting.left }

  abbrev more : ℕ
  more = one_more o.units.counts.good

  pub each-good : ((m : Memory) → P (storing s o statuses.Good os off m (counted HandedOver o.units.counts) (unit_of kinds.HandedOver false os more false (event_bit events.HandedOver))))
      → ((m : Memory) → P (stayed o off m (counted Dropped o.units.counts) (unit_of kinds.Dropped false os more false 0)))
      → ((m : Memory) → P (stayed o (begins s.orn off) m (counted Lost o.units.counts) (unit_of kinds.Lost true os more false (event_bit events.Busy)))) → P (good_unit s o os)
  unfolding good_unit
  each-good over dropped lost =
      let st = settled basic s.filter s.mask o.units.memory os (is_free o) in
      each-fate P st.fate (over st.memory) (dropped st.memory) (lost st.memory)

-- ---- the state of units and the lent memory stay fit
abbrev Fit : Settings → Effect → Type 0
Fit s x = Fits s x.unit_memory.units x.unit_memory.pool x.unit_memory.descriptors

module _ (s : Settings) (o : UnitMemory) (f : Fits s o.units o.pool o.descriptors) where
  stays : (c : Counting) (m : Memory) (n : Counts) → 1 ≤ c.left → Fits s (unit_state_of c m o.units.slots.next n) o.pool o.descriptors
  stays c m n l = record { slots = f.slots; octets = f.octets; words = f.words; next = f.next; counter = l; reload = f.reload }

  -- a unit of up to 280 octets
  stored : (status : Status) (os : List ℕ) (c : Counting) (m : Memory) (n : Counts) (h : Happening) → 1 ≤ c.left → length os ≤ 280
      → Fit s (storing s o status os c m n h)
  stored status os c m n h l w =
      let next = o.units.slots.next in
      let wide : 280 * next + 280 ≤ length o.pool = omega (arith, f) in
      record {
        slots = f.slots;
        octets = pool-length basic o.pool (filled basic os) next (filled-length basic os w) wide ∙ f.octets;
        words = descriptors-length o.descriptors next (status_word status) (length os) ∙ f.words;
        next = next-below s.k next f.next;
        counter = l;
        reload = f.reload;
      }

  fit-errored : (status : Status) (kind : RecordKind) (os : List ℕ) → length os ≤ 280 → Fit s (errored_unit s o status kind os)
  fit-errored status kind os w =
      each-errored (Fit s) s o os status kind
      (stored status os o.units.counting o.units.memory o.units.counts (unit_of kind false os o.units.counts.good true (event_bit events.HandedOver)) f.counter w)
      (stays (begins s.orn o.units.counting) o.units.memory o.units.counts f.counter)

  fit-good : (os : List ℕ) → length os ≤ 280 → Fit s (good_unit s o os)
  fit-good os w =
      let off : Counting = record { on = false; left = o.units.counting.left } in
      let more = one_more o.units.counts.good in
      each-good (Fit s) s o os
      (λ m. stored statuses.Good os off m (counted HandedOver o.units.counts) (unit_of kinds.HandedOver false os more false (event_bit events.HandedOver)) f.counter w)
      (λ m. stays off m (counted Dropped o.units.counts) f.counter)
      (λ m. stays (begins s.orn off) m (counted Lost o.units.counts) f.counter)

  fit-closed : (u : List Bool) → length (whole_octets u) ≤ 280 → Fit s (closed_unit s o u)
  fit-closed u w =
      each-closed (Fit s) s o u f (λ status kind. fit-errored status kind (whole_octets u) w) (fit-good (whole_octets u) w)

-- N's counter stays above zero
runs : (n left : ℕ) → 1 ≤ n → 1 ≤ left → 1 ≤ cond (eqb left 1) n (left - 1)
runs n left h l = go (eqb left 1) refl
  where
    go : (b : Bool) → eqb left 1 ≡ b → 1 ≤ cond b n (left - 1)
    go true e = h
    go false e = let x = eqb-false left 1 e in omega arith

pub fit-kept : FitKept
unfolding effect_of octet_effect
fit-kept s o (found (closed u)) h f = fit-closed s o f u (omega (arith, length_whole u))
fit-kept s o (found abort) h f = stays s o f (begins s.itu o.units.counting) o.units.memory o.units.counts f.counter
fit-kept s o (found long) h f = stays s o f (begins s.itu o.units.counting) o.units.memory o.units.counts f.counter
fit-kept s o octet_end h f =
    stays s o f (record { on = o.units.counting.on; left = cond (eqb o.units.counting.left 1) s.n (o.units.counting.left - 1) })
    o.units.memory o.units.counts (runs s.n o.units.counting.left f.reload f.counter)

-- ---- a finding is one happening, with five octets
record One (x : Effect) : Type 0 where
  one : length x.happenings ≡ 1
  five : FirstFive x.happenings

one_of : (o : UnitMemory) (h : Happening) → length h.first ≡ 5 → One (effect o (h ∷ []))
one_of o h e = record { one = refl; five = five-more e none }

one_found : (s : Settings) (o : UnitMemory) (f : Finding) → One (effect_of s o (found f))
unfolding effect_of
one_found s o (closed u) =
    let os = whole_octets u in
    let w : length (first_five os) ≡ 5 = five-length os in
    each-closed One s o u (one_of _ _ w) (λ status kind. each-errored One s o os status kind (one_of _ _ w) (one_of _ _ w))
    (each-good One s o os (λ m. one_of _ _ w) (λ m. one_of _ _ w) (λ m. one_of _ _ w))
one_found s o abort = one_of _ _ refl
one_found s o long = one_of _ _ refl

pub found-one : OneFound
found-one s o f = (one_found s o f).one

pub one_at_most : OneAtMost
unfolding effect_of octet_effect
one_at_most s o (found f) = omega (arith, (one_found s o f).one)
one_at_most s o octet_end = each-tick (λ (hs : List Happening). length hs ≤ 1) (eqb o.units.counting.left 1) o.units.counting.on (omega arith) (omega arith)

pub first-fives : FirstFives
unfolding effect_of octet_effect
first-fives s o (found f) = (one_found s o f).five
first-fives s o octet_end = each-tick FirstFive (eqb o.units.counting.left 1) o.units.counting.on (five-more refl none) none

-- ---- the good count is the sum of the three others
abbrev Summed : Effect → Type 0
Summed x = Sums x.unit_memory.units.counts

-- one more good unit and one more in its part, each gone round
sum-good : (s : Settings) (o : UnitMemory) (os : List ℕ) → Sums o.units.counts → Summed (good_unit s o os)
sum-good s o os e = each-good Summed s o os (λ m. omega arith) (λ m. omega arith) (λ m. omega arith)

pub sum_kept : SumKept
unfolding effect_of octet_effect
sum_kept s o (found (closed u)) e =
    each-closed Summed s o u e (λ status kind. each-errored Summed s o (whole_octets u) status kind e e) (sum-good s o (whole_octets u) e)
sum_kept s o (found abort) e = e
sum_kept s o (found long) e = e
sum_kept s o octet_end e = e

pub sum-after : SumAfter
unfolding unit_memory_after
sum-after s [] o e = e
sum-after s (m ∷ ms) o e = sum-after s ms (next_unit_memory s o m) (sum_kept s o m e)

-- ---- indications in two parts
pub unit-memory-append : UnitMemoryAppend
unfolding unit_memory_after
unit-memory-append s = run-append (next_unit_memory s)

pub happenings-append : HappeningsAppend
unfolding unit_memory_after happenings
happenings-append s = outs-append (next_unit_memory s) (happens s)
