-- `console_board::receive` meets its contract: the call on the fronts, and what stands behind them.
use Rattle.console_board.proofs.Fronts.{received_is}
use Rattle.console_board.proofs.receive.Goals as goal

pub returns : goal.returns
returns c = received_is _ _ _ _ _ _ _ _ _ _ _ _ _ c.pool_lent-slots.ensures.value c.words_lent-words.ensures.value c.all_lent-room.ensures.value c.receive.ensures
