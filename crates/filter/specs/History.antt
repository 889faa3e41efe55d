-- The filter over a history, from opening on.
use Rattle.std.specs.Prelude.{ℕ, Bool, List, [], ◌∷◌}
use Rattle.bits.specs.Format.{Format}
use Rattle.bits.specs.Machine.{run, outs}
use Rattle.filter.specs.declared.Fate.{Fate}
use Rattle.filter.specs.declared.Memory.{Memory}
use Rattle.filter.specs.Memory.{empty_memory, settled}

-- What the filter is given from opening on: a good unit with whether its slot was free, and command 4. Units with errors are set aside.
pub data FilterInput : Type 0 where
  good : List ℕ → Bool → FilterInput
  command-4 : FilterInput

module _ (F : Format) where
  abbrev pub memory_next : Bool → List ℕ → Memory → FilterInput → Memory
  memory_next on mask m (good u free) = (settled F on mask m u free).memory
  memory_next on mask m command-4 = empty_memory F

  abbrev pub fate_of : Bool → List ℕ → Memory → FilterInput → List Fate
  fate_of on mask m (good u free) = (settled F on mask m u free).fate ∷ []
  fate_of on mask m command-4 = []

  -- the memory after a history, oldest first, and the fates of its good units
  unfoldable pub memory_after : Bool → List ℕ → List FilterInput → Memory
  memory_after on mask = run (memory_next on mask) (empty_memory F)

  unfoldable pub fates : Bool → List ℕ → List FilterInput → List Fate
  fates on mask = outs (memory_next on mask) (fate_of on mask) (empty_memory F)
