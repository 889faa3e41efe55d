-- `unitdump_line::take_octets` meets its contract: one octet more, up to all of them.
use Rattle.std.proofs.Common.{arith}
use Rattle.unitdump_line.proofs.Taking.{takes-none, octet-step}
use Rattle.unitdump_line.proofs.take_octets.Goals as goal

pub loop-octet-init : goal.loop-octet-init
loop-octet-init g c = takes-none _ _

pub loop-octet-preserved : goal.loop-octet-preserved
loop-octet-preserved g c = octet-step _ _ _ _ _ _ c.args.octets.now c.loop-octet.octet-index (omega arith) c.loop-octet.invariant c.in_ok-take_octet.ensures
