-- Proved cases of the scope that sending decides, by computation.
use mathlib.Core.Path.{refl}
use Rattle.bits.specs.Octets.{bits_of}
use Rattle.sending.specs.Promises.{P14, FifthAtEnd}

pub p14 : P14
unfolding bits_of
p14 = refl

pub fifth-at-end : FifthAtEnd
fifth-at-end = refl
