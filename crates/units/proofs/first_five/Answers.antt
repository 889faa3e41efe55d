-- `units::first_five` meets its contract.
use Rattle.std.proofs.Common.{take, arith, length-take}
use Rattle.std.proofs.lemmas.List.{take-take}
use Rattle.units.proofs.FirstFive.{five-over}
use Rattle.units.proofs.first_five.Goals as goal

pub returns : goal.returns
returns c =
    let a = c.args in
    rw (c.copy_from_slice.ensures.after, ← take-take c.min-shown.result a.count a.area.now (omega arith))
    (five-over (take a.count a.area.now) c.min-shown.result (omega (arith, length-take a.count a.area.now)))
