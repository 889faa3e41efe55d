-- `fcs::check` meets its contract: the octets that are left, fed to the register, give the whole.
use Rattle.fcs.proofs.Rest.{start, next, done}
use Rattle.fcs.proofs.check.Goals as goal

pub loop-octet-init : goal.loop-octet-init
loop-octet-init c = start c.args.octets.now

pub loop-octet-preserved : goal.loop-octet-preserved
loop-octet-preserved c =
    let s = c.args.octets.now in
    let l = c.loop-octet in
    next s s l.register l.octet-index _ c.loop-octet-test.true c.check_octet-register.ensures l.invariant

pub returns : goal.returns
returns c =
    let s = c.args.octets.now in
    done s s c.loop-octet.register c.loop-octet.octet-index c.loop-octet-test.false c.loop-octet.invariant
