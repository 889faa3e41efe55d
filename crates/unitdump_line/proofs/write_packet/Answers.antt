-- `unitdump_line::write_packet` meets its contract: the header, then the unit.
use Rattle.std.proofs.Common.{arith, sym, ◌∙◌}
use borrow.Author.Tests.{eqb-true, eqb-false}
use Rattle.std.proofs.lemmas.Result.{on_ok_weaker}
use Rattle.unitdump_line.proofs.Taking.{packet-written, no-packet}
use Rattle.unitdump_line.proofs.write_packet.Goals as goal

pub returns-then-is_empty : goal.returns-then-is_empty
returns-then-is_empty g c = no-packet _ _ _ (eqb-true _ 0 (sym c.is_empty.ensures ∙ c.if-is_empty.true))

pub returns : goal.returns
returns g c =
    let some = eqb-false _ 0 (sym c.is_empty.ensures ∙ c.if-is_empty.false) in
    on_ok_weaker c.write_all-2.result (packet-written _ _ _ _ _ _ (omega (arith, some)) c.packet_header.ensures c.in_ok-write_all.ensures.bytes) c.write_all-2.ensures.bytes
