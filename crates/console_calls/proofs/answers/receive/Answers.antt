-- `console_calls::answers::receive` meets its contract: what the call gives, and its line.
use Rattle.console_calls.proofs.Answering.{receiving_is}
use Rattle.console_calls.proofs.answers.receive.Goals as goal

pub returns : goal.returns
returns g c output = receiving_is _ _ _ _ _ _ _ output _ _ _ _ _ _ c.receive-done.ensures c.counted-number.ensures.0 c.counted-number.ensures.1 c.in_ok-put_received.ensures
