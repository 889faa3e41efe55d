-- Octets in hex.
use Rattle.std.specs.Prelude.{ℕ, ◌/◌, ◌%◌, false, List, [], ◌∷◌, codes}
use Rattle.std.specs.Fmt.{digit_glyph}
use Rattle.std.specs.List.{flat_map}

-- two lower-case digits, the high four bits first
abbrev pub two_digits : ℕ → List ℕ
two_digits octet = digit_glyph false (octet / 16) ∷ digit_glyph false (octet % 16) ∷ []

-- two digits for each octet; `-` where there are none
unfoldable pub hex_text : List ℕ → List ℕ
hex_text [] = codes "-"
hex_text (octet ∷ octets) = flat_map two_digits (octet ∷ octets)
