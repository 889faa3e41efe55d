-- `sending::put_octets` meets its contract: the octets that are left, stuffed and put from here, give the whole.
use Prim.Native.Nat.{ℕ, ◌+◌, ◌<◌}
use mathlib.Core.Path.{subst}
use mathlib.Core.Bool.{Bool}
use mathlib.Core.List.{List, ◌++◌}
use lib.ListN.{length, drop, get_or, drop_of_length-le}
use Rattle.bits.specs.Octets.{bits_of, line_bits}
use Rattle.bits.proofs.Lines.{line-drop}
use Rattle.sending.specs.declared.Tx.{Tx}
use Rattle.sending.specs.Sender.{TxInRange}
use Rattle.sending.proofs.PutSteps.{Going, sets-out, going-room, goes_on, going-ends}
use Rattle.sending.proofs.put_octets.Goals as goal

-- the next octet comes first
first : (out₀ : List ℕ) (t₀ : Tx) (xs out : List ℕ) (t : Tx) (i : ℕ) → i < length xs → Going out₀ t₀ (line_bits xs) out t (line_bits (drop i xs))
    → Going out₀ t₀ (line_bits xs) out t (bits_of 8 (get_or xs i 0) ++ line_bits (drop (i + 1) xs))
first out₀ t₀ xs out t i h g = subst (λ (x : List Bool). Going out₀ t₀ (line_bits xs) out t x) (line-drop xs i h) g

pub loop-octet-init : goal.loop-octet-init
loop-octet-init c = sets-out c.args.out.now c.args.t (line_bits c.args.octets.now) (subst TxInRange c.t.view_is c.t.invariant) c.requires

pub put_octet-t-requires : goal.put_octet-t-requires
put_octet-t-requires c =
    let a = c.args in
    let l = c.loop-octet in
    let xs = a.octets.now in
    going-room a.out.now a.t (line_bits xs) l.out l.t (bits_of 8 (get_or xs l.octet-index 0)) (line_bits (drop (l.octet-index + 1) xs))
    (first a.out.now a.t xs l.out l.t l.octet-index c.loop-octet-test.true l.invariant)

pub loop-octet-preserved : goal.loop-octet-preserved
loop-octet-preserved c =
    let a = c.args in
    let l = c.loop-octet in
    let xs = a.octets.now in
    goes_on a.out.now a.t (line_bits xs) l.out l.t (bits_of 8 (get_or xs l.octet-index 0)) (line_bits (drop (l.octet-index + 1) xs))
    (first a.out.now a.t xs l.out l.t l.octet-index c.loop-octet-test.true l.invariant)
    c.put_octet-t.result c.put_octet-t.new.out c.put_octet-t.ensures

pub returns : goal.returns
unfolding line_bits
returns c =
    let a = c.args in
    let l = c.loop-octet in
    let xs = a.octets.now in
    going-ends a.out.now a.t (line_bits xs) l.out l.t
    (subst (λ (ys : List ℕ). Going a.out.now a.t (line_bits xs) l.out l.t (line_bits ys)) (drop_of_length-le xs c.loop-octet-test.false) l.invariant)
