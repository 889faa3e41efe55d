-- `unitdump_run::read_some` meets its contract: a read that fails leaves all as it was.
use Rattle.unitdump_run.proofs.Dumping.{dumps-none}
use Rattle.unitdump_run.proofs.read_some.Goals as goal

pub returns-in_err-n-clause-dumped : goal.returns-in_err-n-clause-dumped
returns-in_err-n-clause-dumped g c _ = dumps-none _ _ _ _ (c.in_err-n.ensures.failed)
