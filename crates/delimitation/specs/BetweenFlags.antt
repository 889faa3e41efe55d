-- What is found between two flags, said without the machine: it can be held against Q.703 by reading. The proofs are in proofs/BetweenFlags.antt.
use Rattle.std.specs.Prelude.{ℕ, ◌+◌, ◌-◌, ◌*◌, ◌≡◌, Bool, true, false, ◌&&◌, cond, List, [], ◌∷◌, ◌++◌, eqb, ltb, length, take}
use Rattle.sending.specs.Stuffing.{flag}
use Rattle.framing.specs.Delimitation.{Receiver, Finding, long, unit, flagged, receiver_after, findings}

-- Everywhere `ones` is how many ones in a row stand just before the bits.

-- no run of six ones
unfoldable pub no_six : ℕ → List Bool → Bool
no_six ones [] = true
no_six ones (true ∷ bs) = ltb ones 5 && no_six (ones + 1) bs
no_six ones (false ∷ bs) = no_six 0 bs

-- the bits with each zero after five ones removed
unfoldable pub unstuffed : ℕ → List Bool → List Bool
unstuffed ones [] = []
unstuffed ones (true ∷ bs) = true ∷ unstuffed (ones + 1) bs
unstuffed ones (false ∷ bs) = cond (eqb ones 5) (unstuffed 0 bs) (false ∷ unstuffed 0 bs)

-- how many ones in a row stand at the end
unfoldable pub ones_at_end : ℕ → List Bool → ℕ
ones_at_end ones [] = ones
ones_at_end ones (true ∷ bs) = ones_at_end (ones + 1) bs
ones_at_end ones (false ∷ bs) = ones_at_end 0 bs

-- The unit between two flags. A sender puts a zero after every fifth one, "even where the flag follows", so that what it puts between flags never ends in five
-- ones. Where it does all the same, the flag's own first zero is the one after five ones, and "the last seven gathered bits belong to the flag": the
-- last bit goes with the flag.
abbrev pub between : List Bool → List Bool
between bs = let u = unstuffed 0 bs in cond (eqb (ones_at_end 0 bs) 5) (take (length u - 1) u) u

-- what is found of it: long above 8M bits; nothing if it is empty; else it is closed, and short or not by its number of bits (`verdict_of`)
abbrev pub found_of : ℕ → List Bool → List Finding
found_of M u = cond (ltb (8 * M) (length u)) (long ∷ []) (unit u)

-- After the bits of a flag a receiver has just read a flag, whatever it was before.
abbrev pub FlagRead : Type 0
FlagRead = (M : ℕ) (s : Receiver) → receiver_after M s flag ≡ flagged

-- Between two flags with no run of six ones between them, exactly that unit is found, whatever the receiver was before, and it has read a flag again.
abbrev pub BetweenFlags : Type 0
BetweenFlags =
    (M : ℕ) (s : Receiver) (bs : List Bool) → no_six 0 bs ≡ true
    → (findings M s (flag ++ (bs ++ flag)) ≡ findings M s flag ++ found_of M (between bs)) × (receiver_after M s (flag ++ (bs ++ flag)) ≡ flagged)
