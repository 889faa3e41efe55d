-- `ByBits::take_line` meets its contract: the octets so far are taken.
use mathlib.Core.Path.{refl}
use Rattle.reception.proofs.Lines.{taken_none, taken_next}
use Rattle.reception.proofs.ByBitsEngine.take_line.Goals as goal

pub loop-octet-init : goal.loop-octet-init
loop-octet-init c = taken_none _ _ _ _ _ _ _ _ refl c.requires.well_formed.0 c.requires.settings_in_range.1

pub loop-octet-preserved : goal.loop-octet-preserved
loop-octet-preserved c =
    taken_next _ _ _ _ _ c.loop-octet.octet-index c.loop-octet-test.true _ _ _ _ _ _ c.loop-octet.invariant c.take_octet-passed.ensures
