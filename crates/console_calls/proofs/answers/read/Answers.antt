-- `console_calls::answers::read` meets its contract: what the call gives, and its line.
use Rattle.console_calls.proofs.Answering.{reading_is}
use Rattle.console_calls.proofs.answers.read.Goals as goal

pub returns : goal.returns
returns g c records output = reading_is _ _ _ _ _ _ _ _ _ _ _ c.read_number-number.ensures c.read-unit.ensures c.put_read.ensures
