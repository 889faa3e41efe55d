-- `lineview_board::hand_back_filled` meets its contract: a slot is handed back, or it is empty.
use mathlib.Core.Path.{sym, ◌∙◌}
use borrow.Author.Tests.{eqb-true, not-false}
use native.Mathlib.Omega.{arith}
use Rattle.link.specs.Held.{Held}
use Rattle.lineview_board.proofs.Views.{slot_handed, slot_empty}
use Rattle.lineview_board.proofs.hand_back_filled.Goals as goal
use Rattle.lineview_board.proofs.hand_back_filled.Goals.{else-is_filled, then-is_filled}

pub loop-slot-preserved : goal.loop-slot-preserved
loop-slot-preserved c =
    let l = c.loop-slot in
    let h : Held = record { link = c.args.link; pool = l.pool; descriptors = l.descriptors } in
    elim c.if-is_filled.branch [
      | then-is_filled w ↦ rw (w.pool-is, w.descriptors-is) (slot_handed l.slot h _ _ _ _ (omega arith) l.invariant w.hand_back.ensures)
      | else-is_filled w ↦ rw (w.pool-is, w.descriptors-is) (slot_empty l.slot h _ (omega arith) l.invariant (eqb-true _ _ (not-false _ (sym c.is_filled.ensures ∙ w.if-is_filled.false))))
    ]
