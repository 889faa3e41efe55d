-- `filter::masked_unit` meets its contract: five octets, each under the mask's octet at its place.
use mathlib.Core.Path.{sym, ap₂}
use borrow.Author.Rules.{rules}
use Rattle.filter.specs.Unit.{masked}
use Rattle.filter.proofs.Likeness.{of-five}
use Rattle.filter.proofs.masked_unit.Goals as goal

pub returns : goal.returns
unfolding masked
returns c = sym (ap₂ masked (of-five c.args.mask (search rules)) (of-five c.args.first (search rules)))
