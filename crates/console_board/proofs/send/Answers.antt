-- `console_board::send` meets its contract: the call on the fronts, and what stands behind them.
use Rattle.console_board.proofs.Fronts.{sent_is}
use Rattle.console_board.proofs.send.Goals as goal

pub returns : goal.returns
returns c = sent_is _ _ _ _ _ _ c.all_lent-room.ensures.value _ c.send.ensures
