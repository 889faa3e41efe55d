-- `recordview_run::view_records` has taken the records before this one.
use Rattle.recordview_run.proofs.Records.{Taking}
use Rattle.recordview_run.proofs.view_records.Given as goal

abbrev pub invariant-loop-octets : goal.invariant-loop-octets
invariant-loop-octets g l =
    Taking l.records l.initial.viewer l.viewer (g.W.Write.contents l.initial.output) (g.W.Write.contents l.output) l.octets-index
