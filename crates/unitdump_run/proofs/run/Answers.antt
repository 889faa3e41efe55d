-- `unitdump_run::run` meets its contract: each read goes behind those before it.
use borrow.Author.Rules.{rules}
use Rattle.std.proofs.KnownBytes.{Consumes-nil}
use Rattle.unitdump_run.proofs.Dumping.{dumps-none, dumps-more}
use Rattle.unitdump_run.proofs.run.Goals as goal

pub loop-init : goal.loop-init
loop-init g c = dumps-none _ _ _ _ (Consumes-nil _)

pub loop-preserved : goal.loop-preserved
loop-preserved g c = dumps-more _ _ _ _ _ _ _ _ _ c.loop.invariant (c.in_ok-n.ensures.dumped (search rules))

pub returns-in_err-n-clause-dumped : goal.returns-in_err-n-clause-dumped
returns-in_err-n-clause-dumped g c written = (_, dumps-more _ _ _ _ _ _ _ _ _ c.loop.invariant (c.in_err-n.ensures.dumped (λ e. written (search rules))))

pub returns-then-n-eq0-clause-dumped : goal.returns-then-n-eq0-clause-dumped
returns-then-n-eq0-clause-dumped g c _ = (_, dumps-more _ _ _ _ _ _ _ _ _ c.loop.invariant (c.in_ok-n.ensures.dumped (search rules)))
