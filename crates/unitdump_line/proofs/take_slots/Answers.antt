-- `unitdump_line::take_slots` meets its contract: a slot's unit is written and the slot handed back, or it is empty.
use Rattle.std.proofs.Common.{arith, sym, ◌≡◌, ◌+◌, ◌-◌, ◌<◌, ◌≤◌, ◌∙◌}
use borrow.Author.Tests.{eqb-true, not-false}
use Rattle.link.specs.Held.{Held}
use Rattle.lineview_board.proofs.Views.{slot-handed}
use Rattle.unitdump_line.proofs.Taking.{no-slots, slots-none, slot-step, slot-written, slot-passed}
use Rattle.unitdump_line.proofs.take_slots.Goals as goal
use Rattle.unitdump_line.proofs.take_slots.Goals.{then-is_filled+in_ok-write_packet, else-is_filled}

pub loop-slot-init : goal.loop-slot-init
loop-slot-init g c =
    let none : c.args.first - c.args.first ≡ 0 = omega arith in
    record { so_far = rw (none, no-slots c.args.first) (slots-none _ _ _); no_more = omega arith }

pub loop-slot-preserved : goal.loop-slot-preserved
loop-slot-preserved g c =
    let l = c.loop-slot in
    let h : Held = record { link = c.args.dump.link; pool = l.pool; descriptors = l.descriptors } in
    let test : l.slot < c.args.end = c.loop-slot-test.true in
    let more : l.slot + 1 - c.args.first ≤ c.args.end - c.args.first = omega arith in
    elim c.if-is_filled.branch [
      | then-is_filled+in_ok-write_packet w ↦
          record {
            so_far =
                rw (w.output-is, w.pool-is, w.descriptors-is)
                (slot-step _ _ h _ _ _ _ _ l.slot l.auto.slot l.invariant.so_far
                (slot-written _ h _ _ _ l.slot (rw w.read-unit.ensures at w.in_ok-write_packet.ensures) (slot-handed h l.slot w.hand_back.result _ _ w.hand_back.ensures)));
            no_more = more;
          }
      | else-is_filled w ↦
          record {
            so_far =
                rw (w.output-is, w.pool-is, w.descriptors-is)
                (slot-step _ _ h _ _ _ _ _ l.slot l.auto.slot l.invariant.so_far
                (slot-passed _ h _ l.slot (eqb-true _ _ (not-false _ (sym c.is_filled.ensures ∙ w.if-is_filled.false)))));
            no_more = more;
          }
    ]

pub returns : goal.returns
returns g c =
    let l = c.loop-slot in
    let all : l.slot - c.args.first ≡ c.args.end - c.args.first = omega (arith, l.invariant.no_more) in
    rw all at l.invariant.so_far
