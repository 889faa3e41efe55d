-- `lineview_run::run` meets its contract: each read goes behind those before it.
use borrow.Author.Rules.{rules}
use Rattle.std.proofs.KnownBytes.{Consumes-nil}
use Rattle.lineview_run.proofs.Views.{views-none, views-more}
use Rattle.lineview_run.proofs.run.Goals as goal

pub loop-init : goal.loop-init
loop-init g c = views-none _ _ _ _ (Consumes-nil _)

pub loop-preserved : goal.loop-preserved
loop-preserved g c = views-more _ _ _ _ _ _ _ _ _ c.loop.invariant (c.in_ok-n.ensures.viewed (search rules))

pub returns-in_err-n-clause-viewed : goal.returns-in_err-n-clause-viewed
returns-in_err-n-clause-viewed g c written = (_, views-more _ _ _ _ _ _ _ _ _ c.loop.invariant (c.in_err-n.ensures.viewed (λ e. written (search rules))))

pub returns-then-n-eq0-clause-viewed : goal.returns-then-n-eq0-clause-viewed
returns-then-n-eq0-clause-viewed g c _ = (_, views-more _ _ _ _ _ _ _ _ _ c.loop.invariant (c.in_ok-n.ensures.viewed (search rules)))
