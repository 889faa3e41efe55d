-- `memory::release` meets its contract: the slot is wiped in the pool's middle, then described.
use mathlib.Core.Path.{◌∙◌}
use Rattle.memory.proofs.Places.{part_length, put-slot, wiped-slot}
use Rattle.memory.proofs.release.Goals as goal

pub returns : goal.returns
returns c =
    let p = c.args.pool.now in
    let e = c.wipe_octets.ensures ∙ wiped-slot _ (part_length p c.args.slot c.start_of-from.result c.start_of-from.ensures c.requires.0) in
    (put-slot p c.args.slot c.start_of-from.result c.start_of-from.ensures e, c.describe.ensures)
