-- `check_prefixes::write_checks` meets its contract: the check of each beginning goes behind those before it.
use Rattle.std.proofs.Common.{ℕ, subst, arith, ◌≡◌, length, ◌-◌}
use Rattle.std.specs.Io.KnownBytes.{Appends}
use Rattle.check_prefixes.specs.Checks.{checks_of}
use Rattle.check_prefixes.proofs.Prefixes.{none-written, check-written}
use Rattle.check_prefixes.proofs.write_checks.Goals as goal

pub loop-n-init : goal.loop-n-init
loop-n-init g c = (omega arith, none-written _ _)

pub loop-n-preserved : goal.loop-n-preserved
loop-n-preserved g c = (omega arith, check-written _ _ c.loop-n.n _ _ _ _ (omega arith) (omega arith) c.check_octets.ensures c.loop-n.invariant.1 c.in_ok-write_all.ensures.bytes)

pub returns : goal.returns
returns g c =
    let all : c.loop-n.n - 1 ≡ length c.args.octets.now = omega arith in
    subst (λ (k : ℕ). Appends (g.W.Write.contents c.args.output.now) (g.W.Write.contents c.loop-n.output) (checks_of c.args.octets.now k)) all c.loop-n.invariant.1

pub returns-in_ok-write_all : goal.returns-in_ok-write_all
returns-in_ok-write_all g c = check-written _ _ c.loop-n.n _ _ _ _ (omega arith) (omega arith) c.check_octets.ensures c.loop-n.invariant.1 c.in_ok-write_all.ensures.bytes
