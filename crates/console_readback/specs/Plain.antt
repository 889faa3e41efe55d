-- "These can't be read: upper-case hex, `-` as input, two spaces, a space at a line's start or end, a tab, a carriage return, a sign": what each
-- word of a line is made of that is read.
use Rattle.std.specs.Prelude.{ℕ, ◌≡◌, Bool, true, false, not, ◌&&◌, ◌||◌, List, Some, ◌==◌, nat_le, length}
use Rattle.std.specs.Char.{is_ascii_digit}
use Rattle.std.specs.List.{list_all}
use Rattle.console_words.specs.Words.{words}
use Rattle.console_requests.specs.declared.Request.{Request}
use Rattle.console_requests.specs.Requests.{asks_nothing, request_of}

-- a digit or a lower-case letter
abbrev pub is_plain : ℕ → Bool
is_plain octet = is_ascii_digit octet || (nat_le 97 octet && nat_le octet 122)

abbrev pub is_plain_word : List ℕ → Bool
is_plain_word word = not (length word == 0) && list_all is_plain word

-- Of a line that is read, and is neither empty nor a comment, each word is one or more digits and lower-case letters. The proof is in
-- proofs/PlainLines.antt.
abbrev pub PlainWordsOnly : Type 0
PlainWordsOnly =
    (line : List ℕ) (request : Request) → asks_nothing line ≡ false → request_of line ≡ Some request → list_all is_plain_word (words line) ≡ true
