-- What a bench shows of its units follows from its line, N and the itu switch alone, where the overrun switch is off: no filter, mask, K or lent memory.
use Prim.Native.Nat.{ℕ, ◌-◌}
use mathlib.Core.Path.{◌≡◌, refl, ap, ◌∙◌}
use mathlib.Core.Bool.{Bool, true, false, cond}
use mathlib.Core.List.{List, [], ◌∷◌, ◌++◌, map, map-append}
use lib.Dec.{eqb}
use Rattle.bits.specs.Octets.{whole_octets}
use Rattle.bits.specs.Format.{basic}
use Rattle.bits.specs.Machine.{run, outs}
use Rattle.framing.specs.declared.Verdict.{Verdict}
use Rattle.framing.specs.declared.Verdict.TheVariants.{Short, NotWhole, CheckWrong, Good}
use Rattle.framing.specs.Delimitation.{closed, abort, long}
use Rattle.framing.specs.Verdict.{verdict_of}
use Rattle.filter.specs.Memory.{settled}
use Rattle.memory.specs.declared.Status.{Status}
use Rattle.memory.specs.declared.Status.TheVariants as statuses
use Rattle.board.specs.declared.Settings.{Settings}
use Rattle.board.specs.declared.Counting.{Counting}
use Rattle.board.specs.declared.UnitState.{UnitState}
use Rattle.records.specs.declared.RecordKind.{RecordKind}
use Rattle.records.specs.declared.RecordKind.TheVariants as kinds
use Rattle.records.specs.declared.Happening.{Happening}
use Rattle.units.specs.Indications.{Indication, found, octet_end}
use Rattle.units.specs.Units.{UnitMemory, Effect, effect, begins, by_verdict, short_taken, one_more, unit_of, bare_of, is_free, ticks, tick_of, good_unit, errored_unit, closed_unit, octet_effect, effect_of, next_unit_memory, happens, unit_memory_after, happenings}
use Rattle.units.proofs.UnitStates.{each-fate, each-cond}

-- ---- what is shown
-- of the state of units: octet counting and the good count
pub record Core : Type 0 where
  pub counting : Counting
  pub good : ℕ

abbrev pub core_of : UnitState → Core
core_of d = record { counting = d.counting; good = d.counts.good }

-- of a happening: all but whether a slot was empty, and the fate of a good unit
abbrev pub plain_kind : RecordKind → RecordKind
plain_kind kinds.HandedOver = kinds.HandedOver
plain_kind kinds.Dropped = kinds.HandedOver
plain_kind kinds.Lost = kinds.HandedOver
plain_kind kinds.CheckWrong = kinds.CheckWrong
plain_kind kinds.NotWhole = kinds.NotWhole
plain_kind kinds.Short = kinds.Short
plain_kind kinds.Long = kinds.Long
plain_kind kinds.Abort = kinds.Abort
plain_kind kinds.Tick = kinds.Tick

abbrev pub plain : Happening → Happening
plain h =
    record { kind = plain_kind h.kind; lost = false; length = h.length; first = h.first; good = h.good; event = h.event; errored = h.errored; bits = 0 }

pub record Shown : Type 0 where
  pub core : Core
  pub happened : List Happening

abbrev shown : Effect → Shown
shown x = record { core = core_of x.unit_memory.units; happened = map plain x.happenings }

-- ---- one indication
abbrev showing : Counting → ℕ → Happening → Shown
showing c good h = record { core = record { counting = c; good = good }; happened = h ∷ [] }

abbrev off : Counting → Counting
off c = record { on = false; left = c.left }

abbrev unit_shown : Verdict → Core → List ℕ → Shown
unit_shown Short c os = showing c.counting c.good (bare_of kinds.Short os c.good 0)
unit_shown NotWhole c os = showing c.counting c.good (unit_of kinds.NotWhole false os c.good true 0)
unit_shown CheckWrong c os = showing c.counting c.good (unit_of kinds.CheckWrong false os c.good true 0)
unit_shown Good c os = showing (off c.counting) (one_more c.good) (unit_of kinds.HandedOver false os (one_more c.good) false 0)

unfoldable pub shown_of : ℕ → Bool → Core → Indication → Shown
shown_of n itu c (found (closed u)) = unit_shown (verdict_of basic u) c (whole_octets u)
shown_of n itu c (found abort) = showing (begins itu c.counting) c.good (bare_of kinds.Abort [] c.good 0)
shown_of n itu c (found long) = showing (begins itu c.counting) c.good (bare_of kinds.Long [] c.good 0)
shown_of n itu c octet_end =
    let due = eqb c.counting.left 1 in
    record {
      core = record { counting = record { on = c.counting.on; left = cond due n (c.counting.left - 1) }; good = c.good };
      happened = ticks due c.counting.on (plain (tick_of c.good));
    }

abbrev pub core_next : ℕ → Bool → Core → Indication → Core
core_next n itu c m = (shown_of n itu c m).core

abbrev pub core_out : ℕ → Bool → Core → Indication → List Happening
core_out n itu c m = (shown_of n itu c m).happened

plain-tick : (due on : Bool) (h : Happening) → map plain (ticks due on h) ≡ ticks due on (plain h)
plain-tick true true h = refl
plain-tick true false h = refl
plain-tick false on h = refl

module _ (s : Settings) (orn-off : s.orn ≡ false) where
  -- a lost unit begins no octet counting
  none-begun : (c : Counting) → begins s.orn c ≡ c
  none-begun c = ap (λ (b : Bool). begins b c) orn-off

  good-shown : (o : UnitMemory) (os : List ℕ) → shown (good_unit s o os) ≡ unit_shown Good (core_of o.units) os
  unfolding good_unit
  good-shown o os =
      let c = o.units.counting in
      let more = one_more o.units.counts.good in
      each-fate (λ x. shown x ≡ unit_shown Good (core_of o.units) os) (settled basic s.filter s.mask o.units.memory os (is_free o)).fate refl refl
      (ap (λ (x : Counting). showing x more (unit_of kinds.HandedOver false os more false 0)) (none-begun (off c)))

  errored-shown : (o : UnitMemory) (status : Status) (kind : RecordKind) (os : List ℕ)
      → shown (errored_unit s o status kind os) ≡ showing o.units.counting o.units.counts.good (unit_of (plain_kind kind) false os o.units.counts.good true 0)
  unfolding errored_unit
  errored-shown o status kind os =
      let good = o.units.counts.good in
      let h = unit_of (plain_kind kind) false os good true 0 in
      each-cond (λ x. shown x ≡ showing o.units.counting good h) (is_free o) refl (ap (λ (x : Counting). showing x good h) (none-begun o.units.counting))

  closed-shown : (o : UnitMemory) (u : List Bool) → shown (closed_unit s o u) ≡ unit_shown (verdict_of basic u) (core_of o.units) (whole_octets u)
  unfolding closed_unit
  closed-shown o u = go (verdict_of basic u)
    where
      go : (v : Verdict) → shown (by_verdict v (effect o ((short_taken o.units (whole_octets u)).happening ∷ [])) (errored_unit s o statuses.NotWhole kinds.NotWhole (whole_octets u))
          (errored_unit s o statuses.CheckWrong kinds.CheckWrong (whole_octets u)) (good_unit s o (whole_octets u))) ≡ unit_shown v (core_of o.units) (whole_octets u)
      go Short = refl
      go NotWhole = errored-shown o statuses.NotWhole kinds.NotWhole (whole_octets u)
      go CheckWrong = errored-shown o statuses.CheckWrong kinds.CheckWrong (whole_octets u)
      go Good = good-shown o (whole_octets u)

  shows : (o : UnitMemory) (m : Indication) → shown (effect_of s o m) ≡ shown_of s.n s.itu (core_of o.units) m
  unfolding effect_of octet_effect shown_of
  shows o (found (closed u)) = closed-shown o u
  shows o (found abort) = refl
  shows o (found long) = refl
  shows o octet_end =
      let c = o.units.counting in
      let d = o.units.counts.good in
      ap (λ (hs : List Happening). record { core = core_next s.n s.itu (core_of o.units) octet_end; happened = hs }) (plain-tick (eqb c.left 1) c.on (tick_of d))

  -- ---- indications in a row
  pub core-after : (ms : List Indication) (o : UnitMemory)
      → core_of (unit_memory_after s o ms).units ≡ run (core_next s.n s.itu) (core_of o.units) ms
  unfolding unit_memory_after
  core-after [] o = refl
  core-after (m ∷ ms) o =
      core-after ms (next_unit_memory s o m) ∙ ap (λ (x : Shown). run (core_next s.n s.itu) x.core ms) (shows o m)

  pub plain-happened : (ms : List Indication) (o : UnitMemory)
      → map plain (happenings s o ms) ≡ outs (core_next s.n s.itu) (core_out s.n s.itu) (core_of o.units) ms
  unfolding happenings
  plain-happened [] o = refl
  plain-happened (m ∷ ms) o =
      map-append plain (happens s o m) (happenings s (next_unit_memory s o m) ms)
      ∙ ap (λ (hs : List Happening). map plain (happens s o m) ++ hs) (plain-happened ms (next_unit_memory s o m))
      ∙ ap (λ (x : Shown). x.happened ++ outs (core_next s.n s.itu) (core_out s.n s.itu) x.core ms) (shows o m)
