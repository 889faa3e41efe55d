-- `framing::delimit::feed` meets its contract: what is left of the octet, read from here, gives the whole.
use Prim.Native.Nat.{ℕ, ◌-◌, ◌/◌, ◌<◌}
use mathlib.Core.Path.{◌≡◌, refl, sym, ap, ◌∙◌}
use mathlib.Core.List.{◌∷◌}
use native.Mathlib.Omega.{arith}
use Rattle.bits.specs.Octets.{odd, bits_of}
use Rattle.bits.proofs.Digits.{bits-cons}
use Rattle.framing.specs.Delimitation.{Receiver}
use Rattle.framing.specs.InnerReading.{Reading, reading}
use Rattle.framing.specs.Representation.{decode}
use Rattle.framing.proofs.Readings.{quiet-round, loud-round, at-end}
use Rattle.framing.proofs.delimit.feed.Goals as goal

-- the next bit is read first
first : (m : ℕ) (s : Receiver) (left octet : ℕ) (goal : Reading) → 0 < left → reading m s (bits_of left octet) ≡ goal
    → reading m s (odd octet ∷ bits_of (left - 1) (octet / 2)) ≡ goal
first m s left octet goal h e = sym (ap (reading m s) (bits-cons left octet h)) ∙ e

pub loop-left-preserved : goal.loop-left-preserved
loop-left-preserved c =
    let p = c.loop-left in
    let a = c.args in
    let goal = reading a.m (decode a.line a.area.now) (bits_of a.bits a.octet) in
    let w = quiet-round a.m goal p.line p.area (odd p.octet) (bits_of (p.left - 1) (p.octet / 2))
    (first a.m (decode p.line p.area) p.left p.octet goal c.loop-left-test.true p.invariant.1)
    (record { line = c.step_bit-found.new.line; found = c.step_bit-found.result }) c.step_bit-found.new.area c.step_bit-found.ensures
    (sym c.is_some.ensures ∙ c.if-is_some.false) in
    (w.1, w.0)

pub returns-then-is_some : goal.returns-then-is_some
returns-then-is_some c =
    let p = c.loop-left in
    let a = c.args in
    let goal = reading a.m (decode a.line a.area.now) (bits_of a.bits a.octet) in
    loud-round a.m goal p.line p.area (odd p.octet) (bits_of (p.left - 1) (p.octet / 2))
    (first a.m (decode p.line p.area) p.left p.octet goal c.loop-left-test.true p.invariant.1)
    (record { line = c.step_bit-found.new.line; found = c.step_bit-found.result }) c.step_bit-found.new.area c.step_bit-found.ensures
    (sym c.is_some.ensures ∙ c.if-is_some.true) (p.octet / 2) (p.left - 1) refl (omega arith)

pub returns : goal.returns
unfolding bits_of
returns c =
    let p = c.loop-left in
    let a = c.args in
    let goal = reading a.m (decode a.line a.area.now) (bits_of a.bits a.octet) in
    let z : p.left ≡ 0 = omega (arith, c.loop-left-test.false) in
    at-end a.m goal p.line p.area (sym (ap (λ (k : ℕ). reading a.m (decode p.line p.area) (bits_of k p.octet)) z) ∙ p.invariant.1) p.invariant.0 p.octet
