-- `output::send` meets its contract: refused, or the unit is put out and the link keeps what waits.
use Rattle.output.proofs.Outputs.{may_send, send_done}
use Rattle.output.proofs.send.Goals as goal

pub sender_of-requires : goal.sender_of-requires
sender_of-requires c = (may_send _ _ _ c.in_ok-check_content.ensures c.well_formed.0.1.1.1.1.1.1.1.0.1.1.1.1.0.1).0

pub put_out-s-requires : goal.put_out-s-requires
put_out-s-requires c = rw c.sender_of.ensures (may_send _ _ _ c.in_ok-check_content.ensures c.well_formed.0.1.1.1.1.1.1.1.0.1.1.1.1.0.1).1

pub returns : goal.returns
returns c =
    send_done _ _ _ c.put_out-s.result _ _ c.after_output.ensures c.in_ok-check_content.ensures (rw c.sender_of.ensures at c.put_out-s.ensures)
