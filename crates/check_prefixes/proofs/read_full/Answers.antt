-- `check_prefixes::read_full` meets its contract: each part that a read fills goes behind those before it.
use borrow.Author.Rules.{rules}
use Rattle.check_prefixes.proofs.Parts.{read-more}
use Rattle.check_prefixes.proofs.read_full.Goals as goal

pub loop-n-preserved : goal.loop-n-preserved
loop-n-preserved g c =
    let l = c.loop-n in
    (search rules, read-more _ _ _ l.buf c.read.new.buf l.done c.in-Ok-1-to-max.n l.invariant.0 c.in-Ok-1-to-max.ensures.bound.0 l.invariant.1 c.in-Ok-1-to-max.ensures.bytes.0)
