-- `recordview_run::view` has written what belongs to the blocks before this one.
use Rattle.recordview_run.proofs.Running.{Running}
use Rattle.recordview_run.proofs.view.Given as goal

abbrev pub invariant-loop : goal.invariant-loop
invariant-loop g l =
    Running (g.R.Read.remaining l.initial.input) (g.R.Read.remaining l.input) (g.W.Write.contents l.initial.output) (g.W.Write.contents l.output) l.viewer
