-- `octets::gather_octets` meets its contract: the octets so far are plain, and their kept bits are joined to those that stood in the area.
use mathlib.Core.Path.{◌≡◌}
use lib.ListN.{take}
use Rattle.bits.specs.Octets.{line_bits}
use Rattle.octets.proofs.Gathering.{Gathering}
use Rattle.octets.proofs.gather_octets.Given as goal

abbrev pub invariant-loop-octet : goal.invariant-loop-octet
invariant-loop-octet l =
    record {
      counted : l.taken ≡ l.octet-index;
      gathering : Gathering l.octets l.run (take l.bits (line_bits l.initial.area)) l.area l.base l.n l.have l.wait l.octet-index;
    }
