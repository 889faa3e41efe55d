-- `lineview_run::Booking::pass_all` meets its contract: the octets left, fed from here, make up all of them.
use native.Mathlib.Omega.{arith}
use Rattle.lineview_board.proofs.Areas.{fed-few}
use Rattle.lineview_run.specs.View.{held}
use Rattle.lineview_run.proofs.Views.{fed-none, fed-more, all-fed}
use Rattle.lineview_run.proofs.Booking.pass_all.Goals as goal
use Rattle.lineview_run.proofs.Booking.pass_all.Goals.{in-Ok, in_default}

pub loop-octet-init : goal.loop-octet-init
loop-octet-init c = fed-none _ _ _

pub slice_bounds-feed-count : goal.slice_bounds-feed-count
slice_bounds-feed-count c = omega (arith, c.loop-octet.invariant.few)

pub overflow_mul-at : goal.overflow_mul-at
overflow_mul-at c = omega (arith, fed-few _ _ _ _ _ c.in-Ok.ensures)

pub overflow_add-at : goal.overflow_add-at
overflow_add-at c = omega (arith, fed-few _ _ _ _ _ c.in-Ok.ensures, c.loop-octet.invariant.few)

pub loop-octet-preserved : goal.loop-octet-preserved
loop-octet-preserved c =
    let f = c.feed-got in
    let l = c.loop-octet in
    let more = fed-more c.args.octets.now _ (held l.self) l.records l.at l.octet-index (omega arith) (omega (arith, l.invariant.few)) l.invariant in
    elim c.match-got.branch [
      | in-Ok w ↦ rw w.self-is (more _ _ f.auto.records w.in-Ok.ensures w.at-is)
      | in_default w ↦ rw w.self-is (more _ _ f.auto.records w.in_default.ensures (omega arith))
    ]

pub returns : goal.returns
returns c =
    let l = c.loop-octet in
    let all = all-fed c.args.octets.now _ _ l.records l.at l.octet-index (omega arith) l.invariant in
    record { descriptors_after = all.0; records_after = all.1; written_in_bounds = omega (arith, l.invariant.few) }
