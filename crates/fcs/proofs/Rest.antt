-- A loop over octets: those that are left, fed to the register, give the whole.
use mathlib.Core.Path.{◌≡◌, refl, sym, ap, ◌∙◌}
use mathlib.Core.List.{List, ◌∷◌}
use Prim.Native.Nat.{ℕ, ◌+◌, ◌≤◌, ◌<◌}
use Rattle.std.proofs.Common.{add-one}
use lib.ListN.{length, drop, get_or, drop_of_length-le}
use lib.Seq.{drop-cons}
use Rattle.bits.specs.Octets.{bits_of, line_bits}
use Rattle.bits.proofs.Machines.{run-append}
use Rattle.fcs.specs.Check.{check_bit, check_bits, check_of}

-- the octets t, fed to the register r, give the register after s
abbrev pub Rest : List ℕ → ℕ → List ℕ → Type 0
Rest s r t = check_bits r (line_bits t) ≡ check_of s

pub start : (s : List ℕ) → Rest s 0xffff s
unfolding check_of
start s = refl

pub first : (s : List ℕ) (r x : ℕ) (t : List ℕ) (r' : ℕ) → r' ≡ check_bits r (bits_of 8 x) → Rest s r (x ∷ t) → Rest s r' t
unfolding line_bits
first s r x t r' e l =
    ap (λ (n : ℕ). check_bits n (line_bits t)) e ∙ sym (run-append check_bit (bits_of 8 x) (line_bits t) r) ∙ l

pub next : (s t : List ℕ) (r i r' : ℕ) → i < length t → r' ≡ check_bits r (bits_of 8 (get_or t i 0)) → Rest s r (drop i t) → Rest s r' (drop (i + 1) t)
next s t r i r' h e l = first s r (get_or t i 0) (drop (i + 1) t) r' e (rw (drop-cons t i 0 h, ← add-one i) at l)

pub done : (s t : List ℕ) (r i : ℕ) → length t ≤ i → Rest s r (drop i t) → r ≡ check_of s
unfolding line_bits
done s t r i h l = sym (ap (λ (u : List ℕ). check_bits r (line_bits u)) (drop_of_length-le t h)) ∙ l
