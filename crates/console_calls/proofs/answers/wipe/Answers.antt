-- `console_calls::answers::wipe` meets its contract: what the call gives, and its line.
use Rattle.console_calls.proofs.Answering.{wiping_is}
use Rattle.console_calls.proofs.answers.wipe.Goals as goal

pub returns : goal.returns
returns g c records output = wiping_is _ _ _ _ _ _ _ _ _ _ c.wipe-link.ensures c.in_ok-put_wiped.ensures
