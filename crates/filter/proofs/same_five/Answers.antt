-- `filter::same_five` meets its contract: two arrays are compared place by place.
use mathlib.Core.Path.{◌∙◌}
use Rattle.filter.proofs.Likeness.{pointwise-same}
use Rattle.filter.proofs.same_five.Goals as goal

pub returns : goal.returns
returns c = c.eq.ensures ∙ pointwise-same c.args.a c.args.b
