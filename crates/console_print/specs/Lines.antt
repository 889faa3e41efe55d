-- "Words are separated by one space"; each line has its end.
use Rattle.std.specs.Prelude.{ℕ, List, [], ◌∷◌, ◌++◌, codes}

-- words on one line, and what is printed behind it
abbrev pub line_and : List (List ℕ) → List ℕ → List ℕ
line_and [] rest = codes "\n" ++ rest
line_and (word ∷ []) rest = word ++ (codes "\n" ++ rest)
line_and (word ∷ next ∷ words) rest = word ++ (codes " " ++ line_and (next ∷ words) rest)

abbrev pub lines : List (List (List ℕ)) → List ℕ
lines [] = []
lines (words ∷ others) = line_and words (lines others)

abbrev pub line : List (List ℕ) → List ℕ
line words = lines (words ∷ [])
