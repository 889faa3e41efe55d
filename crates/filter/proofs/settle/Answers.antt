-- `filter::settle` meets its contract: its three ways out are the three ways that a unit goes.
use Prim.Native.Nat.{ℕ}
use mathlib.Core.Path.{◌≡◌}
use mathlib.Core.List.{List}
use borrow.Author.Rules.{rules}
use lib.ListN.{length, take}
use Rattle.bits.specs.Format.{basic, fill_in_octets}
use Rattle.filter.proofs.Settling.{Found, found, goes_dropped, goes_over, goes-lost}
use Rattle.filter.proofs.settle.Goals as goal
use Rattle.filter.proofs.settle.Goals.{After-is_dropped}

-- what the calls have told of a unit u that has this length and these first octets
told : (c : After-is_dropped) (u : List ℕ)
    → let s = c.args in
    length u ≡ s.octets → take (fill_in_octets basic) u ≡ s.first
    → Found basic s.on s.mask s.memory u s.octets c.kind_of-kind.result c.masked_unit-five.result
    c.holds_like.result c.is_dropped.result
told c u h t =
    let s = c.args in
    let wide : length s.mask ≡ 5 = search rules in
    found basic s.on s.mask s.memory u s.first s.octets c.masked_unit-five.result wide h t
    (c.kind_of-kind.ensures u h)
    c.masked_unit-five.ensures
    c.holds_like.ensures
    c.is_dropped.ensures

pub returns-then-is_dropped : goal.returns-then-is_dropped
returns-then-is_dropped c u h t = goes_dropped basic _ _ _ _ (told c.before u h t) _ c.if-is_dropped.true

pub returns-then-free : goal.returns-then-free
returns-then-free c u h t =
    goes_over basic _ _ _ _ (told c.before.before.before u h t) c.if-is_dropped.false c.if-free.true c.remembered.ensures

pub returns : goal.returns
returns c u h t =
    goes-lost basic _ _ _ _ (told c.before.before.before u h t) c.if-is_dropped.false c.if-free.false c.empty.ensures
