-- `input::receive_by` meets its contract: refused, or the octets are taken, and the link is put together again.
use Rattle.bits.proofs.Typed.{array-of-octets}
use Rattle.input.proofs.Receiving.{may_take_state, may_take_line, receive_done}
use Rattle.input.proofs.receive_by.Goals as goal

pub take_line-passed-requires : goal.take_line-passed-requires
take_line-passed-requires g c =
    let n = c.in_ok-check_receiving.ensures in
    let typed = array-of-octets 279 c.args.link.line.area _ c.well_formed.0.1.1.1.1.0.1.1.1.0 in
    record { settings_in_range = may_take_state _ _ _ _ _ n; well_formed = may_take_line _ _ _ _ _ n typed }

pub returns : goal.returns
returns g c =
    let p = c.take_line-passed in
    receive_done _ _ _ _ _ c.in_ok-check_receiving.ensures p.result p.new.area p.new.pool p.new.descriptors p.new.out p.ensures
