-- `octets::hunt_octets` meets its contract: the octets so far are plain, and the run is told by the last row.
use native.Mathlib.Omega.{arith}
use borrow.Author.Rules.{Fits-under}
use mathlib.Core.Path.{refl, ap}
use mathlib.Core.Bool.{true}
use Prim.Native.Nat.{ℕ, ◌+◌}
use Rattle.framing.specs.declared.Line.{Line}
use Rattle.framing.specs.Representation.{line_of}
use Rattle.octets.proofs.Passing.{none_passed, run-of-base, read, one_more, row-place, run_small}
use Rattle.octets.proofs.hunt_octets.Goals as goal

pub loop-octet-init : goal.loop-octet-init
loop-octet-init c = record { counted = refl; passing = rw c.from-base.ensures (none_passed c.args.octets.now c.args.run c.requires) }

pub offset_bounds-rows-base : goal.offset_bounds-rows-base
offset_bounds-rows-base c =
    let l = c.loop-octet in
    omega (arith, row-place l.invariant.passing c.from-octet.result (rw c.from-octet.ensures (c.type_inv.octets l.octet-index).fits))

pub bounds-rows-base : goal.bounds-rows-base
bounds-rows-base c = let l = c.loop-octet in row-place l.invariant.passing c.from-octet.result (rw c.from-octet.ensures (c.type_inv.octets l.octet-index).fits)

pub loop-octet-preserved : goal.loop-octet-preserved
loop-octet-preserved c =
    let l = c.loop-octet in
    let a = c.args in record {
      counted = ap (λ (i : ℕ). i + 1) l.invariant.counted;
      passing =
          one_more a.octets.now a.run l.base l.octet-index l.invariant.passing _ _ _
          (read a.octets.now c.row_table-rows.result.now l.base l.octet-index c.from-octet.result c.row_table-rows.ensures c.loop-octet-test.true
          (c.type_inv.octets l.octet-index).fits c.from-octet.ensures c.if-rows-base-ge-MARKED.false);
    }

pub overflow_cast-result : goal.overflow_cast-result
overflow_cast-result c = Fits-under _ _ 8 (run_small c.loop-octet.invariant.passing) tt

pub returns : goal.returns
returns c =
    let l = c.loop-octet in
    let a = c.args in
    rw l.invariant.counted
    (record {
      few = l.invariant.passing.few;
      is_plain = l.invariant.passing.is_plain;
      line = ap {B = Line} (λ r. line_of r true 0) (run-of-base a.octets.now a.run l.base l.octet-index l.invariant.passing);
    })
