-- Text that is put piece by piece: what is put and what is left make up all.
use Prim.Native.Nat.{ℕ, ◌+◌}
use mathlib.Core.Path.{◌≡◌, refl}
use mathlib.Core.Logic.{◌⊎◌, inl, inr}
use mathlib.Core.List.{List, [], ◌∷◌, ◌++◌, append_assoc}
use lib.ListN.{length, take}
use native.Mathlib.Numerals.{add-one}
use native.Mathlib.Omega.{arith}
use Rattle.std.specs.List.{flat_map}
use Rattle.console_print.specs.Slots.{slot_line, slots_from}

-- of the first n pieces one more
pub one_more : {X : Type 0} (f : X → List ℕ) (put put' all : List ℕ) (x : X) (rest rest' : List X) (n n' : ℕ) → rest ≡ x ∷ rest' → n ≡ n' + 1 → put' ≡ put ++ f x
    → put ++ flat_map f (take n rest) ≡ all → put' ++ flat_map f (take n' rest') ≡ all
one_more f put put' all x rest rest' n n' next less more so_far = rw (more, append_assoc put (f x) (flat_map f (take n' rest'))) (rw (next, less, add-one n') at so_far)

-- of the slots one more
pub one_slot_more : (put put' all : List ℕ) (number number' : ℕ) (octets words : List ℕ) (slots slots' descriptors descriptors' : List (List ℕ)) → slots ≡ octets ∷ slots' → descriptors ≡ words ∷ descriptors'
    → number' ≡ number + 1 → put' ≡ put ++ slot_line number octets words
    → put ++ slots_from number slots descriptors ≡ all → put' ++ slots_from number' slots' descriptors' ≡ all
unfolding slots_from
one_slot_more put put' all number number' octets words slots slots' descriptors descriptors' e e' up more so_far =
    rw (more, up, append_assoc put (slot_line number octets words) (slots_from (number + 1) slots' descriptors')) (rw (e, e') at so_far)

-- and none
pub no_slot_left : (number : ℕ) (slots descriptors : List (List ℕ)) → (length slots ≡ 0) ⊎ (length descriptors ≡ 0) → slots_from number slots descriptors ≡ []
unfolding slots_from
no_slot_left number [] descriptors _ = refl
no_slot_left number (octets ∷ slots) [] _ = refl
no_slot_left number (octets ∷ slots) (words ∷ descriptors) (inl e) = absurd (omega (arith, e))
no_slot_left number (octets ∷ slots) (words ∷ descriptors) (inr e) = absurd (omega (arith, e))
