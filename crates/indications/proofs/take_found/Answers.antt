-- `indications::take_found` meets its contract: nothing was found, or finding by finding.
use Rattle.std.proofs.Common.{◌≡◌, [], ◌∷◌}
use Rattle.units.specs.Units.{effect, unit_memory}
use Rattle.indications.proofs.Findings.{effect_shown, found-done, nothing-done}
use Rattle.indications.proofs.take_found.Goals as goal
use Rattle.indications.proofs.take_found.Goals.{in-Closed, in-Abort, in-Long}

pub returns-in_default-clause-out_after : goal.returns-in_default-clause-out_after
returns-in_default-clause-out_after c = λ fs w. nothing-done _ _ fs c.args.area.now (rw c.in_default.is at w)

pub returns-clause-out_after : goal.returns-clause-out_after
returns-clause-out_after c =
    let a = c.args in
    let m = c.match-found-2 in
    let f = c.in-Some.found in
    let d : effect (unit_memory m.taken.units m.pool m.descriptors) (m.taken.happening ∷ []) ≡ effect_shown a.s (unit_memory a.p.units a.pool.now a.descriptors.now) a.area.now f =
    elim m.branch [
      | in-Closed w ↦ rw (w.in-Closed.is, w.pool-is, w.descriptors-is, w.taken-is) w.closed_unit-taken.ensures
      | in-Abort w ↦ rw (w.in-Abort.is, w.pool-is, w.descriptors-is, w.taken-is) (w.break_off-taken.ensures a.pool.now a.descriptors.now)
      | in-Long w ↦ rw (w.in-Long.is, w.pool-is, w.descriptors-is, w.taken-is) (w.break_off-taken-in-Long.ensures a.pool.now a.descriptors.now)
    ] in
    rw c.in-Some.is
    (found-done a.s a.p a.area.now a.pool.now a.descriptors.now a.out.now m.taken m.pool m.descriptors c.note_and_record.result c.note_and_record.new.out c.note_and_record.ensures f d)
