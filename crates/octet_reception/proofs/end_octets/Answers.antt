-- `octet_reception::end_octets` meets its contract: the tick of the last octet, or none.
use Rattle.std.proofs.Common.{rules, eqb, ◌&&◌, ◌≡◌}
use Rattle.octet_reception.proofs.Counter.{octets-ended}
use Rattle.octet_reception.proofs.end_octets.Goals as goal
use Rattle.octet_reception.proofs.end_octets.Goals.{then-counting, else-counting}

pub returns : goal.returns
returns c pool descriptors =
    let a = c.args in
    let d = a.p.units.counting in
    let due : c.if-counting.ticks ≡ (d.on && eqb a.gone d.left) = elim c.if-counting.branch [ then-counting w ↦ search rules | else-counting w ↦ search rules ] in
    octets-ended a.s a.p a.out.now pool descriptors a.gone c.wound-left.result c.wound-left.ensures c.requires.le_left.0 c.requires.le_left.1
    c.if-counting.ticks due c.move_counter.result c.move_counter.new.out c.move_counter.ensures
