-- `unitdump_line::take_slots` has taken the slots up to here.
use Rattle.std.proofs.Common.{◌-◌, ◌≤◌}
use Rattle.unitdump_line.specs.Units.{slots_from, TakesSlots}
use Rattle.unitdump_line.proofs.take_slots.Given as goal

abbrev pub invariant-loop-slot : goal.invariant-loop-slot
invariant-loop-slot g l =
    record {
      so_far :
          TakesSlots l.dump.octets
          (record { link = l.dump.link; pool = l.initial.pool; descriptors = l.initial.descriptors })
          (record { link = l.dump.link; pool = l.pool; descriptors = l.descriptors })
          (g.W.Write.contents l.initial.output) (g.W.Write.contents l.output) (slots_from l.first (l.slot - l.first));
      no_more : l.slot - l.first ≤ l.end - l.first;
    }
