-- `reception::take_octet` meets its contract: the findings still to come, dealt with from here, give the whole octet.
use native.Mathlib.Omega.{arith}
use Rattle.reception.proofs.Octets.{at-start, less, taken-turn, ended}
use Rattle.reception.proofs.take_octet.Goals as goal

pub loop-fed-init : goal.loop-fed-init
loop-fed-init c = at-start _ _ _ _ _ _ _ _ c.requires.able c.requires.well_formed.0 c.requires.well_formed.1

pub loop-fed-smaller : goal.loop-fed-smaller
loop-fed-smaller c = less c.loop-fed.invariant c.feed-fed.ensures c.loop-fed-test.true

pub loop-fed-preserved : goal.loop-fed-preserved
loop-fed-preserved c =
    let t = c.take_found-p in
    taken-turn c.loop-fed.invariant c.feed-fed.ensures t.result t.new.pool t.new.descriptors t.new.out t.new.area t.ensures.out_after t.ensures.area_after

pub returns : goal.returns
returns c = ended c.loop-fed.invariant (omega arith) c.end_octet-progress.result c.end_octet-progress.new.out (c.end_octet-progress.ensures c.loop-fed.pool c.loop-fed.descriptors)
