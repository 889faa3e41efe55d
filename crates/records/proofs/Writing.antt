-- A record put at its place, and its last octets.
use Prim.Native.Nat.{ℕ, ◌+◌, ◌-◌, ◌≤◌}
use mathlib.Core.Path.{◌≡◌, sym, ◌∙◌}
use mathlib.Core.List.{List, [], ◌∷◌, ◌++◌, append_assoc}
use mathlib.Core.Bool.{Bool}
use native.Mathlib.Omega.{arith}
use lib.ListN.{length}
use borrow.Rule.Slice.PartMut.{put_mid, Post-is}
use Rattle.std.proofs.lemmas.List.Edits.{sets, sets-eq}
use Rattle.bits.specs.Octets.{worth}
use Rattle.records.specs.declared.Happening.{Happening}

-- the last eight octets of a record
abbrev pub ending : Happening → Bool → List ℕ
ending h raised = h.first ++ (worth raised ∷ 0 ∷ 0 ∷ [])

-- sixteen octets copied to their place
pub copied : (l ys vs : List ℕ) (a : ℕ) → ys ≡ vs → length vs ≡ 16 → a + 16 ≤ length l → put_mid a (a + 16 - a) l ys ≡ sets l a vs
copied l ys vs a e v h =
    rw (e, Post-is a (a + 16) l (omega arith)) (sym (sets-eq vs l a (omega arith) ∙ rw (v, append_assoc)))
