-- The filter by its memory.
use Rattle.std.specs.Prelude.{ℕ, Bool, false, ◌&&◌, cond, List, eqb, length, replicate}
use Rattle.bits.specs.Format.{Format, fill_in_octets}
use Rattle.filter.specs.declared.Kind.{Kind}
use Rattle.filter.specs.declared.Kind.TheVariants.{FillIn, LinkStatus, Message}
use Rattle.filter.specs.declared.Fate.TheVariants.{HandedOver, Dropped, Lost}
use Rattle.filter.specs.declared.Memory.{Memory}
use Rattle.filter.specs.declared.Settled.{Settled}
use Rattle.filter.specs.Unit.{kind_of, masked, same}

-- the memory holds a unit like this one
abbrev pub holds_like : List ℕ → Memory → List ℕ → Bool
holds_like mask m u = eqb m.length (length u) && same m.octets (masked mask u)

-- "a fill-in unit is dropped exactly if the memory holds one like it; a link status unit needs two in a row"
abbrev pub repeats : Kind → Bool → Bool → Bool
repeats FillIn like before = like
repeats LinkStatus like before = like && before
repeats Message like before = false

module _ (F : Format) where
  -- "opening empt[ies] the memory"
  abbrev pub empty_memory : Memory
  empty_memory = record { length = 0; octets = replicate (fill_in_octets F) 0; alike = false }

  -- "With the filter on"
  abbrev pub drops : Bool → List ℕ → Memory → List ℕ → Bool
  drops on mask m u = on && repeats (kind_of F u) (holds_like mask m u) m.alike

  abbrev pub forgets : Kind → Memory → Memory
  forgets FillIn m = m
  forgets LinkStatus m = m
  forgets Message m = empty_memory

  -- "Otherwise it goes to a slot, and the memory holds its length, its masked octets and whether the unit before was alike.
  -- With the filter off the memory stays empty. A message unit [empties] the memory."
  abbrev pub remembers : Bool → List ℕ → Memory → List ℕ → Memory
  remembers on mask m u =
      cond on (forgets (kind_of F u) (record { length = length u; octets = masked mask u; alike = holds_like mask m u })) empty_memory

  -- What becomes of a good unit whose next slot is free or not: dropped, and the memory is left as it is; or handed over and
  -- remembered; or lost, and "a lost good unit [empties] the memory".
  unfoldable pub settled : Bool → List ℕ → Memory → List ℕ → Bool → Settled
  settled on mask m u free =
      cond (drops on mask m u) (record { fate = Dropped; memory = m })
      (cond free (record { fate = HandedOver; memory = remembers on mask m u }) (record { fate = Lost; memory = empty_memory }))
