-- `output::fill` meets its contract: refused, a flag before any content, or the fill-in unit of the last content.
use Rattle.bits.proofs.Typed.{array-of-octets}
use Rattle.output.proofs.Outputs.{may_fill, fill_done}
use Rattle.output.proofs.fill.Goals as goal

pub sender_of-requires : goal.sender_of-requires
sender_of-requires c =
    let typed = array-of-octets 2 c.args.link.transmitter.last _ c.well_formed.0.1.1.1.1.1.1.1.0.1.1.1.1.1.1.0 in
    (may_fill _ _ c.in_ok-check_output.ensures c.well_formed.0.1.1.1.1.1.1.1.0.1.1.1.1.0.1 typed.0).0

pub put_fill-s-requires : goal.put_fill-s-requires
put_fill-s-requires c =
    let typed = array-of-octets 2 c.args.link.transmitter.last _ c.well_formed.0.1.1.1.1.1.1.1.0.1.1.1.1.1.1.0 in
    rw c.sender_of.ensures (may_fill _ _ c.in_ok-check_output.ensures c.well_formed.0.1.1.1.1.1.1.1.0.1.1.1.1.0.1 typed.0).1

pub returns : goal.returns
returns c =
    fill_done _ _ c.put_fill-s.result _ _ _ c.after_output.ensures c.fill_event.ensures c.in_ok-check_output.ensures (rw c.sender_of.ensures at c.put_fill-s.ensures)
