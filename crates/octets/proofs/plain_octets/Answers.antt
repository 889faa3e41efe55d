-- `octets::plain_octets` meets its contract: hunting, the area stays as it is; inside a unit, so many octets are read as can't make it long.
use mathlib.Core.Path.{refl}
use native.Mathlib.Omega.{arith}
use Rattle.octets.proofs.Passes.{passes-hunting, passes-inside}
use Rattle.octets.proofs.plain_octets.Goals as goal

pub returns-then-line : goal.returns-then-line
returns-then-line c =
    let a = c.args in
    passes-hunting a.m a.line a.octets.now a.area.now c.hunt_octets.result _ c.requires.m_bound c.requires.well_formed c.if-line.true refl c.hunt_octets.ensures

pub returns : goal.returns
returns c =
    let a = c.args in
    passes-inside a.m a.line a.octets.now a.area.now c.gather_octets.result c.gather_octets.new.area c.requires.m_bound c.requires.well_formed
    c.min-end.result (omega (arith, c.min-end.ensures, c.from-room.ensures)) (omega (arith, c.min-end.ensures)) c.if-line.false c.gather_octets.ensures
