-- "Numbers are decimal, octet strings hex in lower case": words as numbers and octets.
use Rattle.std.specs.Prelude.{ℕ, ◌+◌, ◌-◌, ◌*◌, not, ◌&&◌, List, [], ◌∷◌, ◌++◌, drop, Option, Some, None, ◌==◌, nat_le, if◌then◌else◌, length, option_and_then}
use Rattle.std.specs.Char.{is_ascii_digit}
use Rattle.std.specs.List.{list_all}
use Rattle.std.specs.Str.Parse.{digits_value}

infixl 10 ◌>>=◌
abbrev pub ◌>>=◌ : {A B : Type 0} → Option A → (A → Option B) → Option B
o >>= f = option_and_then f o

-- the number that a word of decimal digits says, if there are some and it is at most 65,535; "a number may have leading zeros"
unfoldable pub decimal_of : List ℕ → Option ℕ
decimal_of word =
    if (not (length word == 0) && list_all is_ascii_digit word) && nat_le (digits_value 10 word) 65535 then Some (digits_value 10 word) else None

-- what a digit of lower-case hex says
abbrev pub digit_of : ℕ → Option ℕ
digit_of octet = if is_ascii_digit octet then Some (octet - 48) else (if nat_le 97 octet && nat_le octet 102 then Some (octet - 97 + 10) else None)

-- the octets that pairs of such digits say, if there is no other octet and no digit without another
unfoldable pub pairs_of : List ℕ → Option (List ℕ)
pairs_of [] = Some []
pairs_of (x ∷ []) = None
pairs_of (x ∷ y ∷ xs) = do
  high ← digit_of x
  low ← digit_of y
  octets ← pairs_of xs
  Some ((16 * high + low) ∷ octets)

-- the first octet that a word says in lower-case hex, and what is left of the word
abbrev pub next_of : List ℕ → Option (ℕ × List ℕ)
next_of [] = None
next_of (x ∷ []) = None
next_of (x ∷ y ∷ xs) = do
  high ← digit_of x
  low ← digit_of y
  Some (16 * high + low, xs)

-- the octets that a word says in lower-case hex, one or more
unfoldable pub octets_of : List ℕ → Option (List ℕ)
octets_of [] = None
octets_of (x ∷ xs) = pairs_of (x ∷ xs)

-- the same if there are not too many
unfoldable pub octets_up_to : ℕ → List ℕ → Option (List ℕ)
octets_up_to most word = do
  octets ← octets_of word
  if nat_le (length octets) most then Some octets else None

-- octets at the front of an area, if there are such
abbrev pub at_front : Option (List ℕ) → List ℕ → List ℕ
at_front None area = area
at_front (Some octets) area = octets ++ drop (length octets) area

-- "MASK ten hex digits"
unfoldable pub mask_of : List ℕ → Option (List ℕ)
mask_of word = do
  octets ← octets_of word
  if length octets == 5 then Some octets else None
