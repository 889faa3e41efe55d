-- `memory::fill_slot` meets its contract: the unit is copied to the slot's front, and what lies behind it is wiped.
use Rattle.memory.proofs.Places.{fill-rest}
use Rattle.memory.proofs.fill_slot.Goals as goal

pub returns : goal.returns
returns c = fill-rest c.args.unit.now c.args.slot.now c.requires.0 c.requires.1 c.copy_from_slice.ensures.after c.wipe_octets.ensures
