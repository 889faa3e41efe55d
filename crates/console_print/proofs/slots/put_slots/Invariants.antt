-- `slots::put_slots`: the text so far and the lines of the slots that are left make up all.
use Rattle.std.proofs.Common.{◌≡◌, ◌++◌, ◌/◌, length, string_bytes}
use Rattle.std.specs.Simd.{first_chunks}
use Rattle.console_print.specs.Slots.{slots_from}
use Rattle.console_print.proofs.slots.put_slots.Given as goal

abbrev pub invariant-loop-slot : goal.invariant-loop-slot
invariant-loop-slot g l =
    let left = l.slot-iterator.iter in
    string_bytes l.text ++ slots_from l.slot-iterator.count left.a.rest.now left.b.rest.now
    ≡ string_bytes l.initial.text ++ slots_from 0 (first_chunks 280 (length l.fn.pool / 280) l.fn.pool) (first_chunks 2 (length l.fn.descriptors / 2) l.fn.descriptors)
