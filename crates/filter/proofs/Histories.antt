-- The memory and the fates after a history that has its last input first, and the filter when it is off.
use Prim.Native.Nat.{ℕ}
use mathlib.Core.Path.{◌≡◌, refl, ap, ◌∙◌}
use mathlib.Core.Bool.{Bool, true, false, false≢true}
use mathlib.Core.List.{List, [], ◌∷◌, ◌++◌, reverse, reverse-cons, append-nil}
use Rattle.bits.specs.Machine.{run, outs}
use Rattle.bits.proofs.Machines.{run-append, outs-append}
use Rattle.bits.specs.Format.{Format}
use Rattle.filter.specs.declared.Fate.{Fate}
use Rattle.filter.specs.declared.Memory.{Memory}
use Rattle.filter.specs.Memory.{empty_memory, settled}
use Rattle.filter.specs.History.{FilterInput, good, command-4, memory_next, fate_of, memory_after, fates}
use Rattle.filter.specs.Promises.{OffDropsNothing, OffStaysEmpty}
use Rattle.filter.proofs.Settling.{dropped-if}

module _ (F : Format) (on : Bool) (mask : List ℕ) where
  pub memory-next : (x : FilterInput) (hs : List FilterInput)
      → memory_after F on mask (reverse (x ∷ hs)) ≡ memory_next F on mask (memory_after F on mask (reverse hs)) x
  unfolding memory_after
  memory-next x hs =
      ap (run (memory_next F on mask) (empty_memory F)) (reverse-cons x hs) ∙ run-append (memory_next F on mask) (reverse hs) (x ∷ []) (empty_memory F)

  pub fates-next : (x : FilterInput) (hs : List FilterInput)
      → fates F on mask (reverse (x ∷ hs)) ≡ fates F on mask (reverse hs) ++ fate_of F on mask (memory_after F on mask (reverse hs)) x
  unfolding memory_after fates
  fates-next x hs =
      ap (outs (memory_next F on mask) (fate_of F on mask) (empty_memory F)) (reverse-cons x hs)
      ∙ outs-append (memory_next F on mask) (fate_of F on mask) (reverse hs) (x ∷ []) (empty_memory F)
      ∙ ap (λ (l : List Fate). fates F on mask (reverse hs) ++ l) (append-nil (fate_of F on mask (memory_after F on mask (reverse hs)) x))

-- ---- the filter off
pub off-drops-nothing : OffDropsNothing
off-drops-nothing F mask m u free e = false≢true ((dropped-if F false mask m u free).0 e)

after-off : (F : Format) (mask : List ℕ) (x : FilterInput) → memory_next F false mask (empty_memory F) x ≡ empty_memory F
unfolding settled
after-off F mask (good u true) = refl
after-off F mask (good u false) = refl
after-off F mask command-4 = refl

pub off-stays-empty : OffStaysEmpty
unfolding memory_after
off-stays-empty F mask [] = refl
off-stays-empty F mask (x ∷ hs) = ap (λ (m : Memory). run (memory_next F false mask) m hs) (after-off F mask x) ∙ off-stays-empty F mask hs
