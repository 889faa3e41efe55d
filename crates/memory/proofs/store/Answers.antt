-- `memory::store` meets its contract: the slot is filled in the pool's middle, then described.
use mathlib.Core.Path.{ap, ◌∙◌}
use Rattle.bits.specs.Format.{basic}
use Rattle.memory.specs.Lent.{filled}
use Rattle.memory.proofs.Places.{put-slot}
use Rattle.memory.proofs.store.Goals as goal

pub returns : goal.returns
returns c =
    let e = c.fill_slot.ensures ∙ ap (filled basic) c.first_octets-unit.ensures.0 in
    (put-slot c.args.pool.now c.args.slot c.start_of-from.result c.start_of-from.ensures e, c.describe.ensures)
