-- `fcs::half_octets::sixteen_constants` meets its contract: the literal is the line of the definition.
use mathlib.Core.Path.{refl}
use Rattle.fcs.specs.HalfOctets.{constants}
use Rattle.fcs.proofs.half_octets.sixteen_constants.Goals as goal

pub returns : goal.returns
unfolding constants
returns c = refl
