-- The refusals of receive, in rising number.
use Rattle.std.specs.Prelude.{ℕ, ◌*◌, not, List, [], ◌∷◌, ltb, length}
use Rattle.bits.specs.Format.{basic}
use Rattle.board.specs.Limits.{record_room, most_line}
use Rattle.board.specs.declared.Link.{Link}
use Rattle.board.specs.Malformed.{malformed}
use Rattle.link.specs.Refusals.{Fault, fault, first, fits_memory}

-- "7 more than 1,024 line octets", "8 record area under 48 octets for each line octet"
abbrev pub receive_faults : Link → List ℕ → List ℕ → List ℕ → List ℕ → List Fault
receive_faults l octets pool descriptors records =
    fault (malformed l) 1
    ∷ fault (not l.opened) 2
    ∷ fault (not (fits_memory basic l.settings.k pool descriptors)) 5
    ∷ fault (ltb most_line (length octets)) 7
    ∷ fault (ltb (length records) (record_room * length octets)) 8
    ∷ []

unfoldable pub receive_number : Link → List ℕ → List ℕ → List ℕ → List ℕ → ℕ
receive_number l octets pool descriptors records = first (receive_faults l octets pool descriptors records)
