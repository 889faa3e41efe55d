-- `fcs::check_by_table` meets its contract: the octets that are left, fed to the register, give the whole.
use native.Mathlib.Omega.{arith}
use lib.ListN.{get_or}
use Rattle.std.proofs.lemmas.List.{take_rest}
use Rattle.fcs.proofs.Rest.{start, next, done}
use Rattle.fcs.proofs.Octetwise.{octet-by-lent}
use Rattle.fcs.proofs.Fours.{next-four}
use Rattle.fcs.proofs.check_by_table.Goals as goal

pub loop-left-init : goal.loop-left-init
loop-left-init c = (omega arith, start c.args.octets.now)

pub loop-left-preserved : goal.loop-left-preserved
loop-left-preserved c =
    let l = c.loop-left in
    rw (c.from-in-len4-up-2.ensures, c.from-in-len4-up-3.ensures, c.from-in-len4-up-4.ensures, c.from-in-len4-up-5.ensures, c.from.ensures, c.from-in-len4-up.ensures, take_rest l.left.now 4)
    (next-four c.args.octets.now c.args.table.now c.requires l.register l.left.now c.in-len4-up.len_at_least l.invariant.0
    (omega arith) (omega arith) (omega arith) l.invariant.1)

pub loop-octet-init : goal.loop-octet-init
loop-octet-init c = c.loop-left.invariant.1

pub loop-octet-preserved : goal.loop-octet-preserved
loop-octet-preserved c =
    let l = c.loop-octet in
    let t = c.loop-left.left.now in
    next c.args.octets.now t l.register l.octet-index _ c.loop-octet-test.true
    (rw (c.from-in-loop-octet-2.ensures, c.from-in-loop-octet.ensures) (octet-by-lent c.args.table.now c.requires l.register (get_or t l.octet-index 0))) l.invariant

pub returns : goal.returns
returns c =
    let l = c.loop-octet in
    done c.args.octets.now c.loop-left.left.now l.register l.octet-index c.loop-octet-test.false l.invariant
