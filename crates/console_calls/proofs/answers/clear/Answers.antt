-- `console_calls::answers::clear` meets its contract: what the call gives, and its line.
use Rattle.console_calls.proofs.Answering.{clearing_is}
use Rattle.console_calls.proofs.answers.clear.Goals as goal

pub returns : goal.returns
returns g c pool descriptors records output = clearing_is _ _ _ _ _ _ _ _ _ _ c.clear.ensures c.say_done.ensures
