-- `sending::put_octets` meets its contract: the octets that are left, stuffed and put from here, give the whole.
use lib.ListN.{drop}
use Rattle.bits.specs.Octets.{line_bits}
use Rattle.sending.proofs.PutSteps.{Going}
use Rattle.sending.proofs.put_octets.Given as goal

abbrev pub invariant-loop-octet : goal.invariant-loop-octet
invariant-loop-octet l = Going l.initial.out l.initial.t (line_bits l.octets) l.out l.t (line_bits (drop l.octet-index l.octets))
