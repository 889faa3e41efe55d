-- Lines and their words, by computation.
use Rattle.std.specs.Prelude.{◌≡◌, [], ◌∷◌, Some, None, codes, refl}
use Rattle.console_words.specs.Words.{words, word_of}

pub verb_and_number : words (codes "read 3") ≡ codes "read" ∷ codes "3" ∷ []
unfolding words
verb_and_number = refl

-- two spaces in a row, a space at the start and a space at the end each leave an empty word
pub empty_words : words (codes " a  b ") ≡ [] ∷ codes "a" ∷ [] ∷ codes "b" ∷ [] ∷ []
unfolding words
empty_words = refl

-- an empty line is one empty word
pub empty_line : words [] ≡ [] ∷ []
unfolding words
empty_line = refl

pub last_word : word_of (codes "poke pool 7 255") 3 ≡ Some (codes "255")
unfolding words word_of
last_word = refl

pub past_the_last : word_of (codes "show") 1 ≡ None
unfolding words word_of
past_the_last = refl
