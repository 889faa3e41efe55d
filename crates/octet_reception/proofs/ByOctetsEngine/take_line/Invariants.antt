-- `ByOctets::take_line` meets its contract: what is not in the rest is taken.
use lib.ListN.{length}
use Rattle.indications.specs.InnerWriting.{holding}
use Rattle.octet_reception.proofs.Plain.{Front}
use Rattle.octet_reception.proofs.ByOctetsEngine.take_line.Given as goal

abbrev pub invariant-loop-rest : goal.invariant-loop-rest
invariant-loop-rest l =
    Front l.s l.fn.before.line l.fn.area l.octets (holding l.fn.before.progress l.fn.pool l.fn.descriptors l.fn.out) l.rest l.passed l.area (holding l.passed.progress l.pool l.descriptors l.out)

abbrev pub decreases-loop-rest : goal.decreases-loop-rest
decreases-loop-rest l = length l.rest
