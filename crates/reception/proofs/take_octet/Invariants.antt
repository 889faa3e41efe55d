-- `reception::take_octet` meets its contract: the findings still to come, dealt with from here, give the whole octet.
use Rattle.indications.specs.InnerWriting.{holding}
use Rattle.reception.proofs.Octets.{Between}
use Rattle.reception.proofs.take_octet.Given as goal

abbrev pub invariant-loop-fed : goal.invariant-loop-fed
invariant-loop-fed l =
    Between l.s l.fn.before.line l.fn.area l.octet (holding l.fn.before.progress l.fn.pool l.fn.descriptors l.fn.out) l.area l.pool l.descriptors l.out
    l.fed.step.line l.fed.octet l.fed.left l.p

abbrev pub decreases-loop-fed : goal.decreases-loop-fed
decreases-loop-fed l = l.fed.left
