-- `fcs::check` meets its contract: the octets that are left, fed to the register, give the whole.
use lib.ListN.{drop}
use Rattle.fcs.proofs.Rest.{Rest}
use Rattle.fcs.proofs.check.Given as goal

abbrev pub invariant-loop-octet : goal.invariant-loop-octet
invariant-loop-octet l = Rest l.octets l.register (drop l.octet-index l.octets)
