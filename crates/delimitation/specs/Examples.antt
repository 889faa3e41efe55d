-- Examples of what is found between two flags, by computation. The proofs are in proofs/Examples.antt.
use Rattle.std.specs.Prelude.{◌≡◌, true, false, [], ◌∷◌, ◌++◌, length, replicate}
use Rattle.delimitation.specs.BetweenFlags.{between}

-- Forty zeros and then five ones, with no zero after them: a unit of 44 bits, the last one goes with the flag.
abbrev pub FiveOnesAtEnd : Type 0
FiveOnesAtEnd = length (between (replicate 40 false ++ replicate 5 true)) ≡ 44

-- Five ones, a zero and a one: the zero is removed, and six ones are left.
abbrev pub ZeroRemoved : Type 0
ZeroRemoved =
    between (true ∷ true ∷ true ∷ true ∷ true ∷ false ∷ true ∷ []) ≡ true ∷ true ∷ true ∷ true ∷ true ∷ true ∷ []
