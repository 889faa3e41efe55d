-- `unitdump_run::begin` meets its contract: opened, or refused.
use Rattle.unitdump_run.proofs.Dumping.{begun-is}
use Rattle.unitdump_run.proofs.begin.Goals as goal

pub returns : goal.returns
returns c =
    begun-is c.args.pool.now c.args.descriptors.now _ _ _ c.open-opened.result (rw (c.new-closed.ensures, c.settings.ensures) at c.open-opened.ensures)
    (rw c.new-closed.ensures at c.unwrap_or.ensures)
