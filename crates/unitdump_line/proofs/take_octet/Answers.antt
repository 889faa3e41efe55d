-- `unitdump_line::take_octet` meets its contract: the octet received, then all slots round the ring.
use borrow.Author.Rules.{rules}
use Rattle.std.proofs.lemmas.Result.{on_ok_weaker}
use Rattle.unitdump_line.specs.Units.{Taken, taken_of}
use Rattle.unitdump_line.proofs.Taking.{ring, received-is, octet-one}
use Rattle.unitdump_line.proofs.take_octet.Goals as goal

pub returns : goal.returns
returns g c =
    let a = c.args in
    let r = c.receive-got in
    let t : Taken = taken_of a.dump.now a.pool.now a.descriptors.now in
    let h = received-is t.held a.octet c.map_or-dump.result r.result _ _ _ r.ensures c.map_or-dump.ensures (λ x p. search rules) in
    on_ok_weaker c.take_slots-2.result (λ p. octet-one t a.octet _ _ _ _ h (ring _ _ _ _ _ _ _ a.dump.now.link.units.slots.next c.in_ok-take_slots.ensures p)) c.take_slots-2.ensures
