-- One finding: what it does, way by way.
use Prim.Native.Nat.{ℕ}
use mathlib.Core.Path.{◌≡◌, sym, ap, ◌∙◌}
use mathlib.Core.List.{List, [], ◌∷◌, map}
use native.Mathlib.Omega.{arith}
use lib.ListN.{length, take}
use Rattle.std.proofs.Common.{None, Some}
use Rattle.bits.specs.Octets.{line_bits}
use Rattle.board.specs.Events.{event_bit}
use Rattle.board.specs.declared.Settings.{Settings}
use Rattle.board.specs.declared.events.Event.TheVariants as events
use Rattle.framing.specs.declared.Found.{Found}
use Rattle.framing.specs.declared.Found.TheVariants.{Closed, Abort, Long}
use Rattle.framing.specs.Delimitation.{Finding, closed, abort, long}
use Rattle.records.specs.declared.RecordKind.TheVariants as kinds
use Rattle.units.specs.declared.Taken.{Taken}
use Rattle.units.specs.Indications.{found}
use Rattle.units.specs.Units.{UnitMemory, Effect, unit_memory, effect, closed_unit, broken, effect_of}
use Rattle.indications.specs.declared.Progress.{Progress}
use Rattle.indications.specs.InnerWriting.{CallState, holding, indications_done, NotedAndRecorded, Shown}
use Rattle.indications.proofs.Recording.{indications-none, indication-one}

-- nothing was found
pub nothing-done : (s : Settings) (w : CallState) (fs : List Finding) (area : List ℕ) → Shown fs None area → w ≡ indications_done s w (map found fs)
nothing-done s w [] area h = sym (indications-none s w)
nothing-done s w (closed u ∷ fs) area h = let i = h.is in absurd (cc)
nothing-done s w (abort ∷ fs) area h = let i = h.is in absurd (cc)
nothing-done s w (long ∷ fs) area h = let i = h.is in absurd (cc)

-- what is to be done at a finding that the code shows so
abbrev pub effect_shown : Settings → UnitMemory → List ℕ → Found → Effect
effect_shown s o area (Closed n) = closed_unit s o (take n (line_bits area))
effect_shown s o area Abort = broken s o kinds.Abort (event_bit events.Abort)
effect_shown s o area Long = broken s o kinds.Long (event_bit events.Long)

module _ (s : Settings) (p : Progress) (area pool descriptors out : List ℕ) (taken : Taken) (pool' descriptors' : List ℕ) (r : Progress) (out' : List ℕ)
    (q : NotedAndRecorded s taken p.supervision p.count out r out') where
  abbrev before : UnitMemory
  before = unit_memory p.units pool descriptors

  one : (x : Finding) → effect (unit_memory taken.units pool' descriptors') (taken.happening ∷ []) ≡ effect_of s before (found x)
      → holding r pool' descriptors' out' ≡ indications_done s (holding p pool descriptors out) (found x ∷ [])
  one x e = indication-one s (holding p pool descriptors out) (found x) pool' descriptors' taken r out' e q

  pub found-done : (f : Found) → effect (unit_memory taken.units pool' descriptors') (taken.happening ∷ []) ≡ effect_shown s before area f
      → (fs : List Finding) → Shown fs (Some f) area → holding r pool' descriptors' out' ≡ indications_done s (holding p pool descriptors out) (map found fs)
  unfolding effect_of
  found-done f d [] w = let e = w.is in absurd (cc)
  found-done f d (x ∷ y ∷ fs) w = absurd (omega (arith, w.single))
  found-done f d (closed u ∷ []) w =
      let i = w.is in
      let e : f ≡ Closed (length u) = cc in
      one (closed u) (d ∙ ap (effect_shown s before area) e ∙ ap (closed_unit s before) w.unit)
  found-done f d (abort ∷ []) w =
      let i = w.is in
      let e : f ≡ Abort = cc in
      one abort (d ∙ ap (effect_shown s before area) e)
  found-done f d (long ∷ []) w =
      let i = w.is in
      let e : f ≡ Long = cc in
      one long (d ∙ ap (effect_shown s before area) e)
