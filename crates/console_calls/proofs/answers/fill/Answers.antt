-- `console_calls::answers::fill` meets its contract: what the call gives, and its line.
use Rattle.console_calls.proofs.Answering.{filling_is}
use Rattle.console_calls.proofs.answers.fill.Goals as goal

pub returns : goal.returns
returns g c pool descriptors records = let put = rw c.front.ensures at c.in_ok-put_made.ensures in filling_is _ _ _ _ _ _ _ _ _ _ _ c.counted-number.ensures.0 c.counted-number.ensures.1 c.fill-done.ensures put
