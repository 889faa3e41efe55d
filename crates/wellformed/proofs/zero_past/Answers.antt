-- `wellformed::zero_past` meets its contract: the octet that the first bits end in, or-ed with those after it, decides.
use mathlib.Core.Path.{sym}
use native.Mathlib.Omega.{arith}
use Rattle.board.proofs.Past.{all-taken, or-decides}
use Rattle.wellformed.proofs.zero_past.Goals as goal

pub returns-then-at-octets : goal.returns-then-at-octets
returns-then-at-octets c =
    let s = c.args in
    let a = c.from-at.ensures in
    sym (all-taken s.octets.now s.bits (rw a at c.if-at-octets.true))

pub returns : goal.returns
returns c =
    let s = c.args in
    let a = c.from-at.ensures in
    rw a (or-decides s.octets.now s.bits c.or_from.result (rw a at c.if-at-octets.false) (λ i. omega (arith, c.type_inv.octets i)) (rw a at c.or_from.ensures))
