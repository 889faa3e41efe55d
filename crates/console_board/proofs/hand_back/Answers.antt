-- `console_board::hand_back` meets its contract: the call on the fronts, and what stands behind them.
use Rattle.console_board.proofs.Fronts.{handed_is}
use Rattle.console_board.proofs.hand_back.Goals as goal

pub returns : goal.returns
returns c = handed_is _ _ _ _ _ _ _ _ _ _ c.pool_lent-octets.ensures.value c.words_lent-words.ensures.value c.hand_back.ensures
