-- `ByOctets::take_line` meets its contract: what is not in the rest is taken.
use borrow.Author.Tests.{eqb-true}
use Rattle.std.proofs.Common.{sym, ◌∙◌, arith, length, take, drop, ◌<◌, ◌-◌, length-drop, length-take}
use Rattle.indications.specs.InnerWriting.{holding}
use Rattle.reception.proofs.Lines.{next-able}
use Rattle.octet_reception.proofs.Plain.{Front, front-none, front-octet, front-all, front-room, front-together}
use Rattle.octet_reception.proofs.ByOctetsEngine.take_line.Goals as goal
use Rattle.octet_reception.proofs.ByOctetsEngine.take_line.Goals.{After-end_octets, Then-scan-run}

-- the octets taken together, and their ends
taken : (c : After-end_octets)
    → Front c.args.s c.args.before.line c.args.area.now c.args.octets.now (holding c.args.before.progress c.args.pool.now c.args.descriptors.now c.args.out.now)
    (take (length c.loop-rest.rest.now - c.plain_octets-scan.result.taken) (drop c.plain_octets-scan.result.taken c.loop-rest.rest.now))
    (record { line = c.plain_octets-scan.result.line; progress = c.end_octets.result }) c.plain_octets-scan.new.area
    (holding c.end_octets.result c.loop-rest.pool c.loop-rest.descriptors c.end_octets.new.out)
taken c =
    front-together c.loop-rest.invariant c.requires.settings_in_range.0 c.together.result c.plain_octets-scan.ensures (c.end_octets.ensures c.loop-rest.pool c.loop-rest.descriptors)

-- an octet is left where something is found
left : (c : Then-scan-run) → 0 < length (take (length c.loop-rest.rest.now - c.plain_octets-scan.result.taken) (drop c.plain_octets-scan.result.taken c.loop-rest.rest.now))
left c =
    let r = c.loop-rest.rest.now in
    let n = c.plain_octets-scan.result.taken in
    omega (arith, length-take c.together.result r, length-take (length r - n) (drop n r), length-drop n r)

pub loop-rest-init : goal.loop-rest-init
loop-rest-init c = front-none c.requires.well_formed.0 c.requires.settings_in_range.1

pub loop-rest-preserved : goal.loop-rest-preserved
loop-rest-preserved c = taken (goal.at.loop-rest-preserved c).After-end_octets

pub take_octet-passed-requires : goal.take_octet-passed-requires
take_octet-passed-requires c =
    let t = goal.at.take_octet-passed-requires c in
    let a = taken t.After-end_octets in
    let k = front-room a (left t.Then-scan-run) c.requires.well_formed.1 in
    record { able = next-able c.args.s c.end_octets.result c.loop-rest.pool c.loop-rest.descriptors c.end_octets.new.out c.requires.settings_in_range.0 a.taken.ready k; well_formed = (a.taken.held, k) }

pub loop-rest-preserved-then-scan-run : goal.loop-rest-preserved-then-scan-run
loop-rest-preserved-then-scan-run c =
    let t = goal.at.loop-rest-preserved-then-scan-run c in
    front-octet (taken t.After-end_octets) (left t.Then-scan-run) c.take_octet-passed.ensures

pub returns : goal.returns
returns c = front-all c.loop-rest.invariant (eqb-true (length c.loop-rest.rest.now) 0 (sym c.is_empty.ensures ∙ c.loop-rest-test.false))
