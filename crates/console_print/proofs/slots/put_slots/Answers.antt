-- `slots::put_slots`: the text so far and the lines of the slots that are left make up all.
use Rattle.std.proofs.Common.{arith, rules, ◌≡◌, [], append-nil}
use Rattle.std.proofs.lemmas.Grind.{common_steps}
use Rattle.console_print.specs.Slots.{slots_from, slot_lines}
use Rattle.console_print.proofs.OneByOne.{one_slot_more, no_slot_left}
use Rattle.console_print.proofs.slots.put_slots.Goals as goal

pub loop-slot-init : goal.loop-slot-init
loop-slot-init g c = grind (arith, common_steps)

pub loop-slot-preserved : goal.loop-slot-preserved
loop-slot-preserved g c = one_slot_more _ _ _ _ _ c.in-Some.octets.now c.in-Some.field-0-1-1.now _ _ _ _ (search rules) (search rules) (search rules) (search rules) c.loop-slot.invariant

pub returns : goal.returns
unfolding slot_lines
returns g c =
    let left = c.loop-slot.slot-iterator in
    let none : slots_from left.count left.iter.a.rest.now left.iter.b.rest.now ≡ [] = no_slot_left _ _ _ (search rules) in
    let all = rw (none, append-nil) at c.loop-slot.invariant in
    grind (arith, common_steps, all)
