-- `sending::put_unit` meets its contract: content, check octets and flag are put one after the other.
use mathlib.Core.Path.{sym, subst}
use Rattle.sending.specs.declared.Tx.{Tx}
use Rattle.sending.specs.Stuffing.{unit_line}
use Rattle.sending.specs.InnerPutting.{Puts, Room}
use Rattle.sending.proofs.Units.{content-room, check-room, flag-room, unit-put}
use Rattle.sending.proofs.put_unit.Goals as goal

pub put_octets-t-requires : goal.put_octets-t-requires
put_octets-t-requires c =
    let a = c.args in
    let check = c.check_octets-check in
    content-room a.out.now _ a.content.now check.result check.ensures c.t.invariant (subst (λ (t : Tx). Room t (unit_line a.content.now) a.out.now) (sym c.t.view_is) c.requires)

pub put_octets-t-requires-2 : goal.put_octets-t-requires-2
put_octets-t-requires-2 c =
    let a = c.args in
    let check = c.check_octets-check in
    let p = c.put_octets-t in
    check-room a.out.now _ a.content.now check.result check.ensures c.t.invariant (subst (λ (t : Tx). Room t (unit_line a.content.now) a.out.now) (sym c.t.view_is) c.requires)
    p.result p.new.out p.ensures

pub put_flag-requires : goal.put_flag-requires
put_flag-requires c =
    let a = c.args in
    let check = c.check_octets-check in
    let p = c.put_octets-t in
    let q = c.put_octets-t-2 in
    flag-room a.out.now _ a.content.now check.result check.ensures c.t.invariant (subst (λ (t : Tx). Room t (unit_line a.content.now) a.out.now) (sym c.t.view_is) c.requires)
    p.result p.new.out p.ensures q.result q.new.out q.ensures

pub returns : goal.returns
returns c =
    let a = c.args in
    let check = c.check_octets-check in
    let p = c.put_octets-t in
    let q = c.put_octets-t-2 in
    let f = c.put_flag in
    subst (λ (t : Tx). Puts a.out.now t (unit_line a.content.now) 0 f.result f.new.out) c.t.view_is
    (unit-put a.out.now _ a.content.now check.result check.ensures c.t.invariant (subst (λ (t : Tx). Room t (unit_line a.content.now) a.out.now) (sym c.t.view_is) c.requires)
    p.result p.new.out p.ensures q.result q.new.out q.ensures f.result f.new.out f.ensures)
