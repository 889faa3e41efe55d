-- The refusals of send and fill, in rising number.
use Rattle.std.specs.Prelude.{ℕ, Bool, not, ◌||◌, List, [], ◌∷◌, ltb, length}
use Rattle.bits.specs.Format.{Format, basic, least_content, most_content}
use Rattle.board.specs.declared.Link.{Link}
use Rattle.board.specs.Malformed.{malformed}
use Rattle.link.specs.Refusals.{Fault, fault, first}

-- "9 output area under 336 octets"
abbrev pub output_short : Format → List ℕ → Bool
output_short F output = ltb (length output) F.output

-- "10 content not 3 to 276 octets"
abbrev pub not_content : Format → List ℕ → Bool
not_content F content = ltb (length content) (least_content F) || ltb (most_content F) (length content)

abbrev pub fill_faults : Link → List ℕ → List Fault
fill_faults l output = fault (malformed l) 1 ∷ fault (not l.opened) 2 ∷ fault (output_short basic output) 9 ∷ []

abbrev pub send_faults : Link → List ℕ → List ℕ → List Fault
send_faults l content output =
    fault (malformed l) 1
    ∷ fault (not l.opened) 2
    ∷ fault (output_short basic output) 9
    ∷ fault (not_content basic content) 10
    ∷ []

unfoldable pub fill_number : Link → List ℕ → ℕ
fill_number l output = first (fill_faults l output)

unfoldable pub send_number : Link → List ℕ → List ℕ → ℕ
send_number l content output = first (send_faults l content output)
