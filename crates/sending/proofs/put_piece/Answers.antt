-- `sending::put_piece` meets its contract: one octet goes out, or two, and what is left waits.
use mathlib.Core.Path.{sym, subst}
use native.Mathlib.Omega.{arith}
use lib.Seq.{lt-length-set}
use Rattle.bits.specs.Octets.{bits_of}
use Rattle.sending.specs.declared.Tx.{Tx}
use Rattle.sending.specs.InnerPutting.{Room}
use Rattle.sending.proofs.Puttings.{ready-put}
use Rattle.sending.proofs.Pieces.{joined-short, first_fits, second_fits, one_out, two_out}
use Rattle.sending.proofs.put_piece.Goals as goal

pub bounds-out-t-inside : goal.bounds-out-t-inside
bounds-out-t-inside c =
    let a = c.args in
    let p = c.requires in
    first_fits _ c.t.invariant a.piece a.many p.piece_bound.0 p.piece_bound.1 p.piece_bound.2 a.out.now
    (subst (λ (t : Tx). Room t (bits_of a.many a.piece) a.out.now) (sym c.t.view_is) p.room)

pub overflow_cast-result : goal.overflow_cast-result
overflow_cast-result c =
    let a = c.args in
    let p = c.requires in
    rw (c.from.ensures, c.from-2.ensures) (omega (arith, joined-short _ c.t.invariant a.piece a.many p.piece_bound.0 p.piece_bound.1 p.piece_bound.2 c.if-have-lt16.true))

pub invariant_of-result : goal.invariant_of-result
invariant_of-result c =
    let a = c.args in
    let p = c.requires in
    rw (c.from.ensures, c.from-2.ensures)
    (ready-put a.out.now _ (bits_of a.many a.piece) a.ones _ _ p.ones_bound
    (one_out _ c.t.invariant a.piece a.many p.piece_bound.0 p.piece_bound.1 p.piece_bound.2 a.out.now a.ones c.if-have-lt16.true))

pub returns-then-have-lt16 : goal.returns-then-have-lt16
returns-then-have-lt16 c =
    let a = c.args in
    let p = c.requires in
    rw (← c.t.view_is, c.from.ensures, c.from-2.ensures)
    (one_out _ c.t.invariant a.piece a.many p.piece_bound.0 p.piece_bound.1 p.piece_bound.2 a.out.now a.ones c.if-have-lt16.true)

pub bounds-out-t-inside-2 : goal.bounds-out-t-inside-2
bounds-out-t-inside-2 c =
    let a = c.args in
    let p = c.requires in
    lt-length-set a.out.now c.t.inside.at _
    (second_fits _ c.t.invariant a.piece a.many p.piece_bound.0 p.piece_bound.1 p.piece_bound.2 a.out.now
    (subst (λ (t : Tx). Room t (bits_of a.many a.piece) a.out.now) (sym c.t.view_is) p.room) c.if-have-lt16.false)

pub invariant_of-result-2 : goal.invariant_of-result-2
invariant_of-result-2 c =
    let a = c.args in
    let p = c.requires in
    rw (c.from.ensures, c.from-2.ensures)
    (ready-put a.out.now _ (bits_of a.many a.piece) a.ones _ _ p.ones_bound
    (two_out _ c.t.invariant a.piece a.many p.piece_bound.0 p.piece_bound.1 p.piece_bound.2 a.out.now a.ones c.if-have-lt16.false))

pub returns : goal.returns
returns c =
    let a = c.args in
    let p = c.requires in
    rw (← c.t.view_is, c.from.ensures, c.from-2.ensures)
    (two_out _ c.t.invariant a.piece a.many p.piece_bound.0 p.piece_bound.1 p.piece_bound.2 a.out.now a.ones c.if-have-lt16.false)
