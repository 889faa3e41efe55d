-- The examples, computed.
use mathlib.Core.Path.{refl}
use Rattle.delimitation.specs.BetweenFlags.{unstuffed, ones_at_end}
use Rattle.delimitation.specs.Examples.{FiveOnesAtEnd, ZeroRemoved}

pub five-ones-at-end : FiveOnesAtEnd
unfolding unstuffed ones_at_end
five-ones-at-end = refl

pub zero-removed : ZeroRemoved
unfolding unstuffed ones_at_end
zero-removed = refl
