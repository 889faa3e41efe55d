-- `lineview_board::hand_back_filled` meets its contract: the slots left, handed back from here, make up all sixteen.
use Prim.Native.Nat.{◌-◌}
use mathlib.Core.Path.{◌≡◌}
use Rattle.lineview_board.specs.View.{handed_from, filled_back}
use Rattle.lineview_board.proofs.hand_back_filled.Given as goal

abbrev pub invariant-loop-slot : goal.invariant-loop-slot
invariant-loop-slot l =
    handed_from l.slot (16 - l.slot) (record { link = l.link; pool = l.pool; descriptors = l.descriptors })
    ≡ filled_back (record { link = l.link; pool = l.initial.pool; descriptors = l.initial.descriptors })
