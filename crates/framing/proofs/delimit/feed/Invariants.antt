-- `framing::delimit::feed` meets its contract: what is left of the octet, read from here, gives the whole.
use mathlib.Core.Path.{◌≡◌}
use Rattle.bits.specs.Octets.{bits_of}
use Rattle.framing.specs.InnerReading.{reading, IsWellFormed}
use Rattle.framing.specs.Representation.{decode}
use Rattle.framing.proofs.delimit.feed.Given as goal

abbrev pub invariant-loop-left : goal.invariant-loop-left
invariant-loop-left l =
    IsWellFormed l.m l.line l.area
    × (reading l.m (decode l.line l.area) (bits_of l.left l.octet) ≡ reading l.m (decode l.initial.line l.initial.area) (bits_of l.bits l.initial.octet))
