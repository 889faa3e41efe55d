-- `fcs::check_by_table` meets its contract: the octets that are left, fed to the register, give the whole.
use Prim.Native.Nat.{◌<◌}
use lib.ListN.{length, drop}
use Rattle.fcs.proofs.Rest.{Rest}
use Rattle.fcs.proofs.check_by_table.Given as goal

abbrev pub invariant-loop-left : goal.invariant-loop-left
invariant-loop-left l = (l.register < 65536) × Rest l.octets l.register l.left

abbrev pub decreases-loop-left : goal.decreases-loop-left
decreases-loop-left l = length l.left

abbrev pub invariant-loop-octet : goal.invariant-loop-octet
invariant-loop-octet l = Rest l.octets l.register (drop l.octet-index l.octet-items)
