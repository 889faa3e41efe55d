-- `console_run::answer_all` meets its contract: each read goes behind those before it.
use Rattle.std.proofs.KnownBytes.{Consumes-nil}
use Rattle.console_run.proofs.Sessions.{answers-none, answers-more, answers-unread}
use Rattle.console_run.proofs.answer_all.Goals as goal

pub loop-init : goal.loop-init
loop-init g c = answers-none _ _ _ _ (Consumes-nil _)

pub loop-preserved : goal.loop-preserved
loop-preserved g c = answers-more _ _ _ _ _ _ _ _ _ _ c.loop.invariant c.in_ok-n.ensures.octets c.in_ok-answer_block.ensures.written c.in_ok-answer_block.ensures.passed

pub returns-in_err-n-clause-unread : goal.returns-in_err-n-clause-unread
returns-in_err-n-clause-unread g c _ = (_, answers-unread _ _ _ _ _ _ _ c.loop.invariant c.in_err-n.ensures.failed)
