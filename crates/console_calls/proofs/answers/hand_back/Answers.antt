-- `console_calls::answers::hand_back` meets its contract: what the call gives, and its line.
use Rattle.console_calls.proofs.Answering.{handing_is}
use Rattle.console_calls.proofs.answers.hand_back.Goals as goal

pub returns : goal.returns
returns g c records output = handing_is _ _ _ _ _ _ _ _ _ _ _ _ c.hand_back-done.ensures c.say_done.ensures
