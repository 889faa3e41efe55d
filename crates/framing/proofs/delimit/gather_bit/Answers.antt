-- `framing::delimit::gather_bit` meets its contract: the receiver hunts, the unit is long, or the bit is put behind the others.
use Rattle.framing.proofs.Ways.{long-way, gathered-way}
use Rattle.framing.proofs.delimit.gather_bit.Goals as goal

pub returns-then-line-m : goal.returns-then-line-m
returns-then-line-m c =
    rw c.hunting.ensures
    (long-way c.args.m c.args.line.now c.args.bit c.args.area.now c.clear.new.area c.requires.m_bound c.requires.well_formed
    c.if-line.false c.if-line-m.true c.clear.ensures)

pub returns : goal.returns
returns c =
    gathered-way c.args.m c.args.line.now c.args.bit c.args.area.now c.put_bit.new.area c.requires.m_bound c.requires.well_formed
    c.if-line.false c.if-line-m.false c.put_bit.ensures
