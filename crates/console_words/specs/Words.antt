-- "Words are separated by one space": a line as words.
use Rattle.std.specs.Prelude.{ℕ, List, Option, ◌==◌, slice_get}
use Rattle.std.specs.List.{slice_split}

-- what stands before, between and behind the spaces of a line; between two spaces in a row is an empty word
unfoldable pub words : List ℕ → List (List ℕ)
words line = slice_split (λ octet. octet == 32) line

-- word i, counted from 0, if there are so many
unfoldable pub word_of : List ℕ → ℕ → Option (List ℕ)
word_of line i = slice_get (words line) i
