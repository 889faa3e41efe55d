-- `octets::gather_octets` meets its contract: the octets so far are plain, and their kept bits are joined to those that stood in the area.
use native.Mathlib.Nat.{mod-lt}
use native.Mathlib.Omega.{arith}
use mathlib.Core.Path.{refl, ap}
use Prim.Native.Nat.{ℕ, ◌+◌}
use borrow.Author.Rules.{Fits-under}
use lib.Dec.{lit<}
use lib.ListN.{take}
use Rattle.bits.specs.Octets.{line_bits}
use Rattle.octets.proofs.Passing.{read, row-place, run_small}
use Rattle.octets.proofs.Joining.{wait-small, joined_small}
use Rattle.octets.proofs.Gathering.{at-start, none-gathered, gathering-ends, waiting, filled}
use Rattle.octets.proofs.gather_octets.Goals as goal
use Rattle.octets.proofs.gather_octets.Goals.{else-have-ge8, then-have-ge8}

pub loop-octet-init : goal.loop-octet-init
loop-octet-init c =
    let a = c.args in
    let p = c.requires in
    let s = at-start a.octets.now a.area.now a.bits p.run_bound.1 p.area_value in record {
      counted = refl;
      gathering = rw (c.from-wait.ensures, c.from-base.ensures, c.from-n.ensures, c.from-have.ensures) (none-gathered a.octets.now a.run (take a.bits (line_bits a.area.now)) a.area.now a.bits s.2 p.run_bound.0 s.0 p.area_value);
    }

pub offset_bounds-rows-base : goal.offset_bounds-rows-base
offset_bounds-rows-base c =
    let l = c.loop-octet in
    omega (arith, row-place l.invariant.gathering.passing c.from-octet.result (rw c.from-octet.ensures (c.type_inv.octets l.octet-index).fits))

pub bounds-rows-base : goal.bounds-rows-base
bounds-rows-base c = let l = c.loop-octet in row-place l.invariant.gathering.passing c.from-octet.result (rw c.from-octet.ensures (c.type_inv.octets l.octet-index).fits)

pub overflow_add-wait : goal.overflow_add-wait
overflow_add-wait c =
    let l = c.loop-octet in
    Fits-under _ _ 65536 (joined_small l.area l.n l.have l.wait _ l.invariant.gathering.joining _ (mod-lt _ (lit< tt))) tt

pub loop-octet-preserved : goal.loop-octet-preserved
loop-octet-preserved c =
    let l = c.loop-octet in
    let s = l.invariant.gathering in
    let a = c.args in
    let g = take a.bits (line_bits a.area.now) in
    let f = (at-start a.octets.now a.area.now a.bits c.requires.run_bound.1 c.requires.area_value).1 in
    let w = read a.octets.now c.row_table-rows.result.now l.base l.octet-index c.from-octet.result c.row_table-rows.ensures c.loop-octet-test.true
    (c.type_inv.octets l.octet-index).fits c.from-octet.ensures c.if-row-ge-MARKED.false in record {
      counted = ap (λ (i : ℕ). i + 1) l.invariant.counted;
      gathering =
          elim c.if-have-ge8.branch [
            | then-have-ge8 u ↦ filled a.octets.now a.run g l.area l.base l.n l.have l.wait l.octet-index s f _ _ _ w _ _ _ _ u.if-have-ge8.true u.area-is u.n-is u.have-is u.wait-is
            | else-have-ge8 u ↦ waiting a.octets.now a.run g l.area l.base l.n l.have l.wait l.octet-index s f _ _ _ w _ _ _ _ u.if-have-ge8.false u.area-is u.n-is u.have-is u.wait-is
          ];
    }

pub overflow_cast-area-2 : goal.overflow_cast-area-2
overflow_cast-area-2 c =
    let l = c.loop-octet in
    Fits-under _ _ 128 (wait-small l.area l.n l.have l.wait _ l.invariant.gathering.joining) tt

pub overflow_cast-result : goal.overflow_cast-result
overflow_cast-result c = Fits-under _ _ 8 (run_small c.loop-octet.invariant.gathering.passing) tt

pub returns : goal.returns
returns c =
    let l = c.loop-octet in
    let a = c.args in
    rw l.invariant.counted
    (gathering-ends a.octets.now a.run (take a.bits (line_bits a.area.now)) l.area l.base l.n l.have l.wait l.octet-index l.invariant.gathering)
