-- `framing::unit::verdict` meets its contract: each way out by the tests that led to it.
use Rattle.framing.proofs.Judged.{short-way, odd-way, good-way, wrong-way}
use Rattle.framing.proofs.unit.verdict.Goals as goal

pub returns-then-bits-lt40 : goal.returns-then-bits-lt40
returns-then-bits-lt40 c =
    short-way c.args.area.now c.args.bits c.requires.bits_bound.0 c.requires.bits_bound.1 c.if-bits-lt40.true

pub returns-then-bits-ne0 : goal.returns-then-bits-ne0
returns-then-bits-ne0 c =
    odd-way c.args.area.now c.args.bits c.requires.bits_bound.0 c.requires.bits_bound.1 c.if-bits-lt40.false c.if-bits-ne0.true

pub returns-then-check_by_table : goal.returns-then-check_by_table
returns-then-check_by_table c =
    good-way c.args.area.now c.args.bits c.requires.bits_bound.0 c.requires.bits_bound.1 c.if-bits-lt40.false c.if-bits-ne0.false
    c.check_by_table.result (rw c.from-octets.ensures at c.check_by_table.ensures) c.if-check_by_table.true

pub returns-else-check_by_table : goal.returns-else-check_by_table
returns-else-check_by_table c =
    wrong-way c.args.area.now c.args.bits c.requires.bits_bound.0 c.requires.bits_bound.1 c.if-bits-lt40.false c.if-bits-ne0.false
    c.check_by_table.result (rw c.from-octets.ensures at c.check_by_table.ensures) c.if-check_by_table.false
