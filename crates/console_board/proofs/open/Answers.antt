-- `console_board::open` meets its contract: the call on the fronts, and what stands behind them.
use Rattle.console_board.proofs.Fronts.{opened_is}
use Rattle.console_board.proofs.open.Goals as goal

pub returns : goal.returns
returns c = opened_is _ _ _ _ _ _ _ _ _ _ c.pool_lent-octets.ensures.value c.words_lent-words.ensures.value c.open.ensures
