-- `units::good_unit` meets its contract: the unit goes the way that the filter settles.
use Rattle.std.proofs.Common.{sym, ap, ◌∙◌, ◌≡◌, ℕ, List, length, take, arith, length-take-le}
use Rattle.records.specs.declared.Happening.{Happening}
use Rattle.bits.specs.Format.{basic}
use Rattle.filter.specs.Memory.{settled}
use Rattle.units.specs.Units.{good_unit}
use Rattle.units.proofs.FirstFive.{five-take}
use Rattle.units.proofs.good_unit.Goals as goal
use Rattle.units.proofs.good_unit.Goals.{After-settle-settled}

-- the unit's octets that count
abbrev octets : After-settle-settled → List ℕ
octets c = take c.args.count c.args.area.now

octets-length : (c : After-settle-settled) → length (octets c) ≡ c.args.count
octets-length c = length-take-le c.args.count c.args.area.now (omega arith)

-- what the filter settles of them
told : (c : After-settle-settled) → c.settle-settled.result ≡ settled basic c.args.s.filter c.args.s.mask c.args.units.memory (octets c) c.is_free-free.result
told c =
    let n = octets-length c in
    c.settle-settled.ensures (octets c) n (five-take (octets c) (omega arith) ∙ ap (λ (h : Happening). h.first) (sym c.shown-unit.ensures))

pub returns-in-HandedOver : goal.returns-in-HandedOver
unfolding good_unit
returns-in-HandedOver c =
    let k = (goal.at.returns-in-HandedOver c).After-settle-settled in
    rw (c.hand_over.ensures, c.shown-unit.ensures, c.counted-counts.ensures, ← c.is_free-free.ensures, ← told k, c.in-HandedOver.is, octets-length k, octets-length k)

pub returns-in-Dropped : goal.returns-in-Dropped
unfolding good_unit
returns-in-Dropped c =
    let k = (goal.at.returns-in-Dropped c).After-settle-settled in
    rw (c.shown-unit.ensures, c.counted-counts.ensures, ← c.is_free-free.ensures, ← told k, c.in-Dropped.is)

pub returns-in-Lost : goal.returns-in-Lost
unfolding good_unit
returns-in-Lost c =
    let k = (goal.at.returns-in-Lost c).After-settle-settled in
    rw (c.lost.ensures, c.shown-unit.ensures, c.counted-counts.ensures, ← c.is_free-free.ensures, ← told k, c.in-Lost.is)
