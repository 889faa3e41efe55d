-- Bits in which no flag and no abort ends: what they do to a receiver.
use Prim.Native.Nat.{ℕ, ◌+◌, ◌*◌, ◌≤◌, ◌<◌}
use mathlib.Core.Path.{◌≡◌, refl, sym, ap, ◌∙◌}
use mathlib.Core.Bool.{Bool, true, false, not}
use mathlib.Core.List.{List, [], ◌∷◌, ◌++◌, append_assoc, append-nil}
use native.Mathlib.Omega.{arith}
use borrow.Author.Tests.{not-true}
use lib.Dec.{eqb}
use lib.ListN.{length, length-append}
use Rattle.std.proofs.lemmas.Bool.{and_parts}
use Rattle.framing.specs.Delimitation.{inside, hunts, step_bit}
use Rattle.framing.proofs.Steps.{bit-then, gathers, hunted-zero}
use Rattle.octets.specs.Rows.{run_next, kept_of, run_over, kept, plain}
use Rattle.octets.specs.Plain.{PlainInside, PlainHunting}

-- the first of plain bits, and those after it
pub plain-first : (r : ℕ) (b : Bool) (bs : List Bool) → plain r (b ∷ bs) ≡ true → (eqb r 6 ≡ false) × (plain (run_next r b) bs ≡ true)
unfolding plain
plain-first r b bs p =
    let t = and_parts (not (eqb r 6)) (plain (run_next r b) bs) p in
    (not-true (eqb r 6) t.0, t.1)

-- ---- inside a unit
inside-bit : (M r : ℕ) (g : List Bool) (b : Bool) → eqb r 6 ≡ false → length g < 8 * M + 7
    → step_bit M (inside r g) b ≡ (inside (run_next r b) (g ++ kept_of r b), [])
unfolding step_bit
inside-bit M r g true e k = rw e (gathers M r (run_next r true) true g k)
inside-bit M r g false e k = go (eqb r 5) refl
  where
    go : (x : Bool) → eqb r 5 ≡ x → step_bit M (inside r g) false ≡ (inside 0 (g ++ kept_of r false), [])
    go true f = rw (f, append-nil)
    go false f = rw (f, e) (gathers M r 0 false g k)

pub kept-few : (r : ℕ) (b : Bool) → length (kept_of r b) ≤ 1
kept-few r true = omega arith
kept-few r false = go (eqb r 5) refl
  where
    go : (x : Bool) → eqb r 5 ≡ x → length (kept_of r false) ≤ 1
    go true f = rw f (omega arith)
    go false f = rw f (omega arith)

pub plain-inside : PlainInside
plain-inside M r g [] p k = (ap (inside r) (sym (append-nil g)), refl)
plain-inside M r g (b ∷ bs) p k =
    let t = plain-first r b bs p in
    let q = plain-inside M (run_next r b) (g ++ kept_of r b) bs t.1 (omega (arith, length-append g (kept_of r b), kept-few r b)) in
    bit-then M (inside r g) (inside (run_next r b) (g ++ kept_of r b)) _ b bs [] [] (inside-bit M r g b t.0 (omega arith))
    (q.0 ∙ ap (inside (run_over (run_next r b) bs)) (append_assoc g (kept_of r b) (kept (run_next r b) bs))) q.1

-- ---- hunting
hunted-bit : (M r : ℕ) (b : Bool) → eqb r 6 ≡ false → step_bit M (hunts r) b ≡ (hunts (run_next r b), [])
unfolding step_bit
hunted-bit M r true e = rw e
hunted-bit M r false e = hunted-zero M r e

pub plain-hunting : PlainHunting
plain-hunting M r [] p = (refl, refl)
plain-hunting M r (b ∷ bs) p =
    let t = plain-first r b bs p in
    let q = plain-hunting M (run_next r b) bs t.1 in
    bit-then M (hunts r) (hunts (run_next r b)) _ b bs [] [] (hunted-bit M r b t.0) q.0 q.1
