-- `output::put_fill` meets its contract: a flag before any content, or the unit of the last content.
use borrow.Author.Tests.{not-true, not-false}
use Rattle.bits.proofs.Typed.{array-of-octets}
use Rattle.output.proofs.Outputs.{fill-flag-room, fill-flag-puts, fill-unit-room, fill-unit-puts}
use Rattle.output.proofs.put_fill.Goals as goal

pub put_flag-requires : goal.put_flag-requires
put_flag-requires c = fill-flag-room c.args.s _ _ (not-true _ c.if-not-t.true) c.requires

pub returns-then-not-t : goal.returns-then-not-t
returns-then-not-t c = fill-flag-puts _ _ _ (not-true _ c.if-not-t.true) _ _ c.put_flag.ensures

pub put_out-requires : goal.put_out-requires
put_out-requires c =
    let typed = array-of-octets 2 c.args.t.last _ c.well_formed.1.1.0.1.1.1.1.1.1.0 in
    fill-unit-room c.args.s _ _ (not-false _ c.if-not-t.false) typed.0 c.requires

pub returns : goal.returns
returns c =
    let typed = array-of-octets 2 c.args.t.last _ c.well_formed.1.1.0.1.1.1.1.1.1.0 in
    fill-unit-puts _ _ _ (not-false _ c.if-not-t.false) typed.0 _ _ c.put_out.ensures
