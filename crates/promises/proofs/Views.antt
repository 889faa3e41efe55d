-- The calls of transmission and read-back as calls of the one type.
use mathlib.Core.Path.{refl}
use Rattle.transmission.specs.Transmission.{send as sending, fill as filling}
use Rattle.promises.specs.Views.{SendsAreCalls, FeedsAreCalls, HandBacksAreCalls}

pub sends-are-calls : SendsAreCalls
sends-are-calls l (sending content output) = (refl, refl)
sends-are-calls l (filling output) = (refl, refl)

pub feeds-are-calls : FeedsAreCalls
feeds-are-calls h f = (refl, refl)

pub hand-backs-are-calls : HandBacksAreCalls
hand-backs-are-calls h slot = refl
