-- `ByBits::take_line` meets its contract: the octets so far are taken.
use lib.ListN.{take}
use Rattle.indications.specs.InnerWriting.{holding}
use Rattle.reception.specs.InnerWriting.{LineTaken}
use Rattle.reception.proofs.ByBitsEngine.take_line.Given as goal

abbrev pub invariant-loop-octet : goal.invariant-loop-octet
invariant-loop-octet l =
    LineTaken l.s l.fn.before.line l.fn.area (take l.octet-index l.octets) (holding l.fn.before.progress l.fn.pool l.fn.descriptors l.fn.out) l.passed l.area (holding l.passed.progress l.pool l.descriptors l.out)
