-- `units::errored_unit` meets its contract: the unit goes to a slot, or is lost.
use Rattle.std.proofs.Common.{sym, ◌∙◌, arith, length-take-le}
use Rattle.units.specs.Units.{errored_unit}
use Rattle.units.proofs.errored_unit.Goals as goal

pub returns-then-is_free : goal.returns-then-is_free
unfolding errored_unit
returns-then-is_free c =
    let n = length-take-le c.args.count c.args.area.now (omega arith) in
    rw (c.hand_over.ensures, c.errored-event.ensures, c.shown.ensures, sym c.is_free.ensures ∙ c.if-is_free.true, n, n)

pub returns-else-is_free : goal.returns-else-is_free
unfolding errored_unit
returns-else-is_free c = rw (c.lost.ensures, c.errored-event.ensures, c.shown.ensures, sym c.is_free.ensures ∙ c.if-is_free.false)
