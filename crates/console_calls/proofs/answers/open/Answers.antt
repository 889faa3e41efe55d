-- `console_calls::answers::open` meets its contract: what the call gives, and its line.
use Rattle.console_calls.proofs.Answering.{opening_is}
use Rattle.console_calls.proofs.answers.open.Goals as goal

pub returns : goal.returns
returns g c records output = opening_is _ _ _ _ _ _ _ _ _ _ _ _ c.open-done.ensures c.say_done.ensures
