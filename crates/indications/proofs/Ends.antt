-- The end of a line octet: the tick, or none.
use Prim.Native.Nat.{ℕ, ◌-◌}
use mathlib.Core.Path.{◌≡◌, sym, ap, ap₂, ◌∙◌}
use mathlib.Core.Bool.{Bool, true, false, cond, ◌&&◌}
use mathlib.Core.List.{List, [], ◌∷◌}
use lib.Dec.{eqb}
use Rattle.records.specs.declared.Happening.{Happening}
use Rattle.board.specs.declared.Settings.{Settings}
use Rattle.units.specs.Indications.{octet_end}
use Rattle.units.specs.Units.{unit_memory, effect, unit_state_of, ticks, tick_of, octet_effect, effect_of}
use Rattle.indications.specs.declared.Progress.{Progress}
use Rattle.indications.specs.InnerWriting.{holding, indications_done, with_left, CounterMoved}
use Rattle.indications.proofs.Recording.{indication-one, indication-quiet}

module _ (s : Settings) (p : Progress) (left : ℕ) (e : left ≡ cond (eqb p.units.counting.left 1) s.n (p.units.counting.left - 1))
    (pool descriptors out : List ℕ) (r : Progress) (out' : List ℕ) where
  effect-of-end : (hs : List Happening) → ticks (eqb p.units.counting.left 1) p.units.counting.on (tick_of p.units.counts.good) ≡ hs
      → effect (unit_memory (with_left p.units left) pool descriptors) hs ≡ effect_of s (unit_memory p.units pool descriptors) octet_end
  unfolding effect_of octet_effect
  effect-of-end hs t =
      ap₂ (λ (n : ℕ) (x : List Happening).
      effect (unit_memory (unit_state_of (record { on = p.units.counting.on; left = n }) p.units.memory p.units.slots.next p.units.counts) pool descriptors) x) e (sym t)

  pub octet-ended : (due : Bool) → due ≡ (eqb p.units.counting.left 1 && p.units.counting.on) → CounterMoved s p left due out r out'
      → holding r pool descriptors out' ≡ indications_done s (holding p pool descriptors out) (octet_end ∷ [])
  octet-ended true d m =
      let h = tick_of p.units.counts.good in
      indication-one s (holding p pool descriptors out) octet_end pool descriptors (record { units = with_left p.units left; happening = h }) r out'
      (effect-of-end (h ∷ []) (ap (λ (b : Bool). cond b (h ∷ []) []) (sym d))) m
  octet-ended false d m =
      ap₂ (λ (x : Progress) (y : List ℕ). holding x pool descriptors y) m.0 m.1
      ∙ indication-quiet s (holding p pool descriptors out) octet_end (unit_memory (with_left p.units left) pool descriptors)
      (effect-of-end [] (ap (λ (b : Bool). cond b (tick_of p.units.counts.good ∷ []) []) (sym d)))
