-- `console_board::fill` meets its contract: the call on the fronts, and what stands behind them.
use Rattle.console_board.proofs.Fronts.{filled_is}
use Rattle.console_board.proofs.fill.Goals as goal

pub returns : goal.returns
returns c = filled_is _ _ _ _ _ _ c.all_lent-room.ensures.value c.fill.ensures
