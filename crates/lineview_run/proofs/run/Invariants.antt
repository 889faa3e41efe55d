-- `lineview_run::run` has written the records of what it has read.
use Rattle.lineview_run.specs.View.{held, Views}
use Rattle.lineview_run.proofs.run.Given as goal

abbrev pub invariant-loop : goal.invariant-loop
invariant-loop g l =
    Views (held l.initial.booking) (held l.booking)
    (g.R.Read.remaining l.initial.input) (g.R.Read.remaining l.input) (g.W.Write.contents l.initial.output) (g.W.Write.contents l.output)
