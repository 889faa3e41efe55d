-- `wellformed::is_malformed` meets its contract.
use mathlib.Core.Path.{sym, ap, ◌∙◌}
use mathlib.Core.Bool.{not}
use Rattle.board.proofs.Ranges.{when-open, when-closed}
use Rattle.wellformed.proofs.is_malformed.Goals as goal

pub returns-then-link : goal.returns-then-link
returns-then-link c = c.open_malformed.ensures ∙ sym (when-open _ c.if-link.true)

pub returns-else-link : goal.returns-else-link
returns-else-link c = ap not c.is_new.ensures ∙ sym (when-closed _ c.if-link.false)
