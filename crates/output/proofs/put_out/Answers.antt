-- `output::put_out` meets its contract: a unit, or a flag and a unit.
use Rattle.output.proofs.Outputs.{flagged-room, flagged-puts, first-room, then-room, then-puts}
use Rattle.output.proofs.put_out.Goals as goal

pub put_unit-requires : goal.put_unit-requires
put_unit-requires c = flagged-room c.args.s _ _ _ c.if-t.true c.requires

pub returns-then-t : goal.returns-then-t
returns-then-t c = flagged-puts _ _ _ _ c.if-t.true _ _ c.put_unit.ensures

pub put_flag-f-requires : goal.put_flag-f-requires
put_flag-f-requires c = first-room c.args.s _ _ _ c.if-t.false c.requires

pub put_unit-requires-2 : goal.put_unit-requires-2
put_unit-requires-2 c = then-room c.args.s _ _ _ c.if-t.false c.requires _ _ c.put_flag-f.ensures

pub returns : goal.returns
returns c = then-puts _ _ _ _ c.if-t.false c.requires _ _ c.put_flag-f.ensures _ _ c.put_unit-2.ensures
