-- `memory::mark_empty` meets its contract: the two words of each slot so far are those of empty slots.
use Prim.Native.Nat.{◌*◌}
use Rattle.memory.specs.Lent.{empty_descriptors}
use Rattle.memory.proofs.Loops.{Written}
use Rattle.memory.proofs.mark_empty.Given as goal

abbrev pub invariant-loop-each : goal.invariant-loop-each
invariant-loop-each l = Written (empty_descriptors l.k) l.initial.descriptors l.descriptors (2 * l.each)
