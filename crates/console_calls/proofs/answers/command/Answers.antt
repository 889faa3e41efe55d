-- `console_calls::answers::command` meets its contract: what the call gives, and its line.
use Rattle.console_calls.proofs.Answering.{commanding_is}
use Rattle.console_calls.proofs.answers.command.Goals as goal

pub returns : goal.returns
returns g c pool descriptors records output = commanding_is _ _ _ _ _ _ _ _ _ _ c.command.ensures c.say_done.ensures
