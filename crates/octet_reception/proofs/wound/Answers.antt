-- `octet_reception::wound` meets its contract: the counter's closed form, before its first end and from it on.
use mathlib.Core.Path.{sym}
use native.Mathlib.Omega.{arith}
use Rattle.octet_reception.proofs.Counter.{wound-down, wound-round}
use Rattle.octet_reception.proofs.wound.Goals as goal

pub returns-then-gone-first : goal.returns-then-gone-first
returns-then-gone-first c = sym (wound-down c.args.n c.args.gone c.args.left (omega arith))

pub returns : goal.returns
returns c = rw (c.from-first.ensures, c.from.ensures) (sym (wound-round c.args.n c.args.gone c.args.left c.requires.0 c.requires.1 (omega arith)))
