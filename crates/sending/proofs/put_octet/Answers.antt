-- `sending::put_octet` meets its contract: the row of the ones in a row and the octet gives the piece.
use Prim.Native.Nat.{ℕ, ◌+◌, ◌*◌}
use mathlib.Core.Path.{sym, ap, ap₂, subst, subst₂, ◌∙◌}
use mathlib.Core.Bool.{Bool}
use mathlib.Core.List.{List}
use native.Mathlib.Omega.{arith}
use Rattle.sending.specs.declared.Tx.{Tx}
use Rattle.sending.specs.Sender.{TxInRange}
use Rattle.sending.specs.InnerPutting.{Puts, Room}
use Rattle.sending.proofs.Rows.{row-says}
use Rattle.sending.proofs.put_octet.Goals as goal

-- the row's place
abbrev place : ℕ → ℕ → ℕ
place ones octet = ones * 256 + octet

pub overflow_cast-row : goal.overflow_cast-row
overflow_cast-row c =
    let w = row-says c.stuffing_table.result.now c.t.inside.ones c.args.octet _ c.stuffing_table.ensures (ap₂ place c.from.ensures c.from-2.ensures) c.t.invariant.short (omega arith) in
    omega (arith, w.short)

pub put_piece-requires : goal.put_piece-requires
put_piece-requires c =
    let t = c.args.t in
    let ready : TxInRange t = subst TxInRange c.t.view_is c.t.invariant in
    let w = row-says c.stuffing_table.result.now t.ones c.args.octet _ c.stuffing_table.ensures
    (ap₂ place (c.from.ensures ∙ ap (λ (x : Tx). x.ones) c.t.view_is) c.from-2.ensures) ready.short (omega arith) in
    record {
      room = subst (λ (x : List Bool). Room t x c.args.out.now) (sym w.piece) c.requires;
      piece_bound = (w.small, omega arith, omega (arith, w.few));
      ones_bound = w.short;
    }

pub returns : goal.returns
returns c =
    let t = c.args.t in
    let p = c.put_piece in
    let ready : TxInRange t = subst TxInRange c.t.view_is c.t.invariant in
    let w = row-says c.stuffing_table.result.now t.ones c.args.octet _ c.stuffing_table.ensures
    (ap₂ place (c.from.ensures ∙ ap (λ (x : Tx). x.ones) c.t.view_is) c.from-2.ensures) ready.short (omega arith) in
    subst₂ (λ (x : List Bool) (n : ℕ). Puts c.args.out.now t x n p.result p.new.out) w.piece w.then p.ensures
