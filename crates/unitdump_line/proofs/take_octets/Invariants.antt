-- `unitdump_line::take_octets` has taken the octets so far.
use Rattle.std.proofs.Common.{take}
use Rattle.unitdump_line.specs.Units.{taken_of, Takes}
use Rattle.unitdump_line.proofs.take_octets.Given as goal

abbrev pub invariant-loop-octet : goal.invariant-loop-octet
invariant-loop-octet g l =
    Takes (taken_of l.initial.dump l.initial.pool l.initial.descriptors) (taken_of l.dump l.pool l.descriptors) (g.W.Write.contents l.initial.output) (g.W.Write.contents l.output)
    (take l.octet-index l.octets)
