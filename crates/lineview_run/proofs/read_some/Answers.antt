-- `lineview_run::read_some` meets its contract: a read that gives nothing leaves all as it was.
use Rattle.std.proofs.Common.{ℕ, take, subst, arith, ◌≡◌}
use Rattle.std.specs.Io.KnownBytes.{Consumes}
use Rattle.lineview_run.proofs.Views.{views-none}
use Rattle.lineview_run.proofs.read_some.Goals as goal

pub returns-in_err-n-clause-viewed : goal.returns-in_err-n-clause-viewed
returns-in_err-n-clause-viewed g c _ = views-none _ _ _ _ (c.in_err-n.ensures.failed)

pub returns-else-n-gt0-clause-viewed : goal.returns-else-n-gt0-clause-viewed
returns-else-n-gt0-clause-viewed g c _ =
    let none : c.in_ok-n.n ≡ 0 = omega arith in
    views-none _ _ _ _ (subst (λ (n : ℕ). Consumes (g.R.Read.remaining c.args.input.now) (g.R.Read.remaining c.read_in.new.input) (take n c.read_in.new.buffer)) none c.in_ok-n.ensures.octets)
