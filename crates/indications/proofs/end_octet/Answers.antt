-- `indications::end_octet` meets its contract: a tick where the counter ends in octet counting, or none.
use Rattle.std.proofs.Common.{rules, eqb, ◌&&◌, ◌≡◌}
use Rattle.indications.proofs.Ends.{octet-ended}
use Rattle.indications.proofs.end_octet.Goals as goal
use Rattle.indications.proofs.end_octet.Goals.{then-counting-eq1, else-counting-eq1}

pub returns : goal.returns
returns c pool descriptors =
    let d = c.args.p.units.counting in
    let due : c.if-counting-eq1.ticks ≡ (eqb d.left 1 && d.on) = elim c.if-counting-eq1.branch [ then-counting-eq1 w ↦ search rules | else-counting-eq1 w ↦ search rules ] in
    octet-ended c.args.s c.args.p c.count_down-left.result c.count_down-left.ensures pool descriptors c.args.out.now c.move_counter.result c.move_counter.new.out
    c.if-counting-eq1.ticks due c.move_counter.ensures
