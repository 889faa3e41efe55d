-- `octets::hunt_octets` meets its contract: the octets so far are plain, and the run is told by the last row.
use mathlib.Core.Path.{◌≡◌}
use Rattle.octets.proofs.Passing.{Passing}
use Rattle.octets.proofs.hunt_octets.Given as goal

abbrev pub invariant-loop-octet : goal.invariant-loop-octet
invariant-loop-octet l =
    record {
      counted : l.taken ≡ l.octet-index;
      passing : Passing l.octets l.run l.base l.octet-index;
    }
