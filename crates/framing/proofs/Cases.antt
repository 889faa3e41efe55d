-- Proved cases of the scope that delimitation decides, by computation.
use mathlib.Core.Path.{refl}
use Rattle.bits.specs.Octets.{bits_of, line_bits}
use Rattle.framing.specs.Delimitation.{step_bit}
use Rattle.framing.specs.Verdict.{verdict_of}
use Rattle.framing.specs.Cases.{P3, P4, P5, P6, P7Closes, P7Long}

pub p3 : P3
unfolding step_bit line_bits bits_of
p3 = (refl, refl)

pub p4 : P4
unfolding step_bit line_bits bits_of
p4 = refl

pub p5 : P5
unfolding step_bit line_bits bits_of
p5 = refl

pub p6 : P6
unfolding step_bit bits_of verdict_of
p6 = (refl, refl, refl, refl)

pub p7-closes : P7Closes
unfolding step_bit bits_of
p7-closes = refl

pub p7-long : P7Long
unfolding step_bit bits_of
p7-long = (refl, refl)
