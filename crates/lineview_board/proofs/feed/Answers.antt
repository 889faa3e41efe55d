-- `lineview_board::feed` meets its contract.
use borrow.Author.Rules.{rules}
use Rattle.lineview_board.proofs.Views.{fed_is}
use Rattle.lineview_board.proofs.feed.Goals as goal

pub returns : goal.returns
returns c =
    let r = c.receive-got in
    let a = c.args in
    fed_is a.link a.octet a.pool.now a.descriptors.now a.records.now _ _ _ _ _ c.map_or-after.result r.result r.ensures c.map_or-after.ensures (λ x p. search rules) c.hand_back_filled.ensures
