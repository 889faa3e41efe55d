-- `unitdump_run::put_out` meets its contract: what is flushed stays what it was.
use Rattle.unitdump_run.proofs.Dumping.{flushed}
use Rattle.unitdump_run.proofs.put_out.Goals as goal

pub returns : goal.returns
returns g c = flushed c.flush.result _ _ _ _ _ _ c.in_ok-take_octets.ensures c.flush.ensures.bytes
