-- `units::closed_unit` meets its contract: each verdict leads to what is done with such a unit.
use Rattle.std.proofs.Common.{◌≡◌, ◌/◌, sym, ◌∙◌, take, arith}
use Rattle.bits.specs.Octets.{line_bits, whole_octets}
use Rattle.units.specs.Units.{closed_unit}
use Rattle.units.proofs.Closing.{whole, good-octets}
use Rattle.units.proofs.closed_unit.Goals as goal
use Rattle.units.proofs.closed_unit.Goals.{After-verdict}

kept : (c : After-verdict) → whole_octets (take c.args.bits (line_bits c.args.area.now)) ≡ take (c.args.bits / 8) c.args.area.now
kept c = whole c.args.area.now c.args.bits c.requires.bits_bound.0 c.requires.bits_bound.1

pub good_unit-requires-clause-le_count : goal.good_unit-requires-clause-le_count
good_unit-requires-clause-le_count c =
    (good-octets c.args.area.now c.args.bits c.requires.bits_bound.0 c.requires.bits_bound.1 (sym c.verdict.ensures ∙ c.in-Good.is), omega arith)

pub returns-in-Short : goal.returns-in-Short
unfolding closed_unit
returns-in-Short c = rw (c.shown.ensures, ← c.verdict.ensures, c.in-Short.is, kept (goal.at.returns-in-Short c).After-verdict)

pub returns-in-NotWhole : goal.returns-in-NotWhole
unfolding closed_unit
returns-in-NotWhole c = rw (← c.verdict.ensures, c.in-NotWhole.is, kept (goal.at.returns-in-NotWhole c).After-verdict) c.errored_unit.ensures

pub returns-in-CheckWrong : goal.returns-in-CheckWrong
unfolding closed_unit
returns-in-CheckWrong c = rw (← c.verdict.ensures, c.in-CheckWrong.is, kept (goal.at.returns-in-CheckWrong c).After-verdict) c.errored_unit-in-CheckWrong.ensures

pub returns-in-Good : goal.returns-in-Good
unfolding closed_unit
returns-in-Good c = rw (← c.verdict.ensures, c.in-Good.is, kept (goal.at.returns-in-Good c).After-verdict) c.good_unit.ensures
