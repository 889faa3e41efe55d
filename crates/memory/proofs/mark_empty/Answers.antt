-- `memory::mark_empty` meets its contract: the two words of each slot so far are those of empty slots.
use mathlib.Core.Path.{sym, ◌∙◌}
use native.Mathlib.Omega.{arith}
use Rattle.memory.proofs.Loops.{write-start, write-end}
use Rattle.memory.proofs.Places.{mark-more}
use Rattle.memory.proofs.Slots.{empty-length}
use Rattle.memory.proofs.mark_empty.Goals as goal

pub loop-each-init : goal.loop-each-init
loop-each-init c = write-start _ _ (empty-length c.args.k ∙ sym c.requires)

pub loop-each-preserved : goal.loop-each-preserved
loop-each-preserved c = mark-more c.loop-each.invariant (omega arith) c.describe.ensures

pub returns : goal.returns
returns c = write-end c.loop-each.invariant (omega (arith, c.loop-each.invariant.long, c.loop-each.invariant.sized))
