-- `lineview_board::open_booking` meets its contract: opened, then command 2.
use Rattle.lineview_board.proofs.Views.{opened_is}
use Rattle.lineview_board.proofs.open_booking.Goals as goal

pub returns : goal.returns
returns c = opened_is _ c.args.pool.now c.args.descriptors.now _ _ _ _ _ _ _ c.new-closed.ensures c.open.ensures c.unwrap_or-opened.ensures c.command.ensures c.unwrap_or.ensures
