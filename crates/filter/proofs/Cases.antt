-- The scope's proved cases that are the filter's, P12 and P13, by computation.
use mathlib.Core.Path.{refl}
use Rattle.filter.specs.Unit.{kind_of, masked, same}
use Rattle.filter.specs.Memory.{settled}
use Rattle.filter.specs.History.{fates}
use Rattle.filter.specs.Promises.{P12FillIn, P12Status, P13}

pub p12-fill-in : P12FillIn
unfolding fates settled kind_of masked same
p12-fill-in = refl

pub p12-status : P12Status
unfolding fates settled kind_of masked same
p12-status = refl

pub p13 : P13
unfolding fates settled kind_of masked same
p13 = refl
