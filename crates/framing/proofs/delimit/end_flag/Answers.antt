-- `framing::delimit::end_flag` meets its contract: an empty unit or none, or a closed one that stays in the area.
use mathlib.Core.Path.{refl}
use Rattle.framing.proofs.Ways.{flag-none, flag-closed}
use Rattle.framing.proofs.delimit.end_flag.Goals as goal

pub returns-then-bits-gt0 : goal.returns-then-bits-gt0
returns-then-bits-gt0 c =
    flag-none c.args.m c.args.line.now c.args.area.now _ c.requires.m_bound c.requires.well_formed c.if-bits-le7.true refl

pub returns : goal.returns
returns c =
    flag-closed c.args.m c.args.line.now c.args.area.now c.args.area.now c.requires.m_bound c.requires.well_formed c.if-bits-le7.false
