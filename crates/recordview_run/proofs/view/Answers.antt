-- `recordview_run::view` meets its contract: each block goes behind those before it, and the rest behind them.
use borrow.Author.Rules.{rules}
use Rattle.recordview_run.proofs.Running.{running-none, running-more, running-end}
use Rattle.recordview_run.proofs.view.Goals as goal

pub loop-init : goal.loop-init
loop-init g c = running-none _ _ _ c.new-viewer.ensures

pub loop-preserved : goal.loop-preserved
loop-preserved g c =
    running-more _ _ _ _ _ _ _ _ 1024 _ (search rules) c.in-Full.ensures c.in_ok-view_records-in-Full.ensures.viewer
    c.in_ok-view_records-in-Full.ensures.lines c.loop.invariant

pub returns-in-Ended-clause-viewed : goal.returns-in-Ended-clause-viewed
returns-in-Ended-clause-viewed g c _ = running-end _ _ _ _ _ _ _ _ c.in-Ended.ensures.1 c.in_ok-view_end-in-Ended.ensures.ok c.loop.invariant

pub returns-in-Unread-clause-viewed : goal.returns-in-Unread-clause-viewed
returns-in-Unread-clause-viewed g c _ = running-end _ _ _ _ _ _ _ _ c.in-Unread.ensures.1 c.in_ok-view_end-in-Unread.ensures.ok c.loop.invariant
