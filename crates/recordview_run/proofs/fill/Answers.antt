-- `recordview_run::fill` meets its contract: each part that a read fills goes behind those before it.
use borrow.Author.Rules.{rules}
use Rattle.recordview_run.proofs.Filling.{read-more}
use Rattle.recordview_run.proofs.fill.Goals as goal

pub loop-done-preserved : goal.loop-done-preserved
loop-done-preserved g c =
    let l = c.loop-done in
    (search rules, read-more _ _ _ l.buffer c.read_in.new.buffer l.done c.in-Ok.n l.invariant.0 c.in-Ok.ensures.bounded l.invariant.1 c.in-Ok.ensures.octets)
