-- `console_run::pass_block` meets its contract: the octets left, passed from here, make up all of them.
use Rattle.std.proofs.Common.{arith}
use Rattle.console_run.proofs.Sessions.{passed-none, line-ended, octet-kept, all-passed}
use Rattle.console_run.proofs.pass_block.Goals as goal
use Rattle.console_run.proofs.pass_block.Goals.{then-octet-eq10+in_ok-session, else-octet-eq10+in_ok-push}

pub loop-octet-init : goal.loop-octet-init
loop-octet-init g c = passed-none _ _ _

pub loop-octet-preserved : goal.loop-octet-preserved
loop-octet-preserved g c =
    let l = c.loop-octet in
    elim c.if-octet-eq10.branch [
      | then-octet-eq10+in_ok-session w ↦
          rw (w.session-is, w.begun-is, w.pool-is, w.descriptors-is, w.records-is, w.output-is, w.text-is)
          (line-ended c.args.octets.now _ _ l.octet-index (omega arith) l.session l.begun.items l.pool l.descriptors l.records l.output _ l.invariant _ _ _ _ _ _ _ _
          w.if-octet-eq10.true w.as_slice.ensures.value w.clear.ensures.items w.in_ok-session.ensures.passed w.in_ok-session.ensures.put)
      | else-octet-eq10+in_ok-push w ↦
          rw (w.session-is, w.begun-is, w.pool-is, w.descriptors-is, w.records-is, w.output-is, w.text-is)
          (octet-kept c.args.octets.now _ _ l.octet-index (omega arith) l.session l.begun.items l.pool l.descriptors l.records l.output _ l.invariant _
          w.if-octet-eq10.false w.in_ok-push.ensures.items)
    ]

pub returns-clause-passed : goal.returns-clause-passed
returns-clause-passed g c = (all-passed c.args.octets.now _ _ _ _ c.loop-octet.octet-index (omega arith) c.loop-octet.invariant).0

pub returns-clause-put : goal.returns-clause-put
returns-clause-put g c = (all-passed c.args.octets.now _ _ _ _ c.loop-octet.octet-index (omega arith) c.loop-octet.invariant).1
