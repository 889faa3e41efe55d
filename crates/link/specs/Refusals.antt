-- The refusal table: "Checked in rising number, where the call has that fault to find; each is given exactly then, and success is 0."
use Rattle.std.specs.Prelude.{ℕ, ◌*◌, Bool, not, ◌&&◌, ◌||◌, cond, List, [], ◌∷◌, eqb, leb, ltb, length}
use Rattle.bits.specs.Format.{Format, basic, most_longest}
use Rattle.memory.specs.declared.Status.TheVariants.{Good, CheckWrong, NotWhole}
use Rattle.memory.specs.Lent.{zeros, status_word, status_of, length_of}
use Rattle.board.specs.declared.Settings.{Settings}
use Rattle.board.specs.declared.Link.{Link}
use Rattle.board.specs.Malformed.{in_range, malformed}
use Rattle.link.specs.Commands.{command_of, is_unknown}

pub record Fault : Type 0 where
  pub found : Bool
  pub number : ℕ

abbrev pub fault : Bool → ℕ → Fault
fault b n = record { found = b; number = n }

-- the number of the first fault that is found, and 0 for none
unfoldable pub first : List Fault → ℕ
first [] = 0
first (f ∷ fs) = cond f.found f.number (first fs)

-- "pool [..] exactly 280K octets [and] descriptors [..] 2K words"
unfoldable pub fits_memory : Format → ℕ → List ℕ → List ℕ → Bool
fits_memory F k pool descriptors = eqb (length pool) (F.slot * k) && eqb (length descriptors) (2 * k)

-- "status not 0, 1 or 2, or length over 278"
abbrev pub is_filled : ℕ → Bool
is_filled status = (eqb status (status_word Good) || eqb status (status_word CheckWrong)) || eqb status (status_word NotWhole)

abbrev pub unreadable : Format → ℕ → ℕ → Bool
unreadable F status count = not (is_filled status) || ltb (most_longest F) count

abbrev pub open_faults : Link → Settings → List ℕ → List ℕ → List Fault
open_faults l s pool descriptors =
    fault (malformed l) 1
    ∷ fault l.opened 3
    ∷ fault (not (in_range basic s)) 4
    ∷ fault (not (fits_memory basic s.k pool descriptors)) 5
    ∷ fault (not (zeros pool && zeros descriptors)) 6
    ∷ []

abbrev pub command_faults : Link → ℕ → List Fault
command_faults l command =
    fault (malformed l) 1
    ∷ fault (not l.opened) 2
    ∷ fault (is_unknown (command_of command)) 11
    ∷ []

abbrev pub read_faults : Link → List ℕ → List ℕ → ℕ → List Fault
read_faults l pool descriptors slot =
    fault (malformed l) 1
    ∷ fault (not l.opened) 2
    ∷ fault (not (fits_memory basic l.settings.k pool descriptors)) 5
    ∷ fault (leb l.settings.k slot) 12
    ∷ fault (unreadable basic (status_of descriptors slot) (length_of descriptors slot)) 13
    ∷ []

abbrev pub clear_faults : Link → List Fault
clear_faults l = fault (malformed l) 1 ∷ fault (not l.opened) 2 ∷ []

unfoldable pub open_number : Link → Settings → List ℕ → List ℕ → ℕ
open_number l s pool descriptors = first (open_faults l s pool descriptors)

unfoldable pub command_number : Link → ℕ → ℕ
command_number l command = first (command_faults l command)

unfoldable pub clear_number : Link → ℕ
clear_number l = first (clear_faults l)

unfoldable pub read_number : Link → List ℕ → List ℕ → ℕ → ℕ
read_number l pool descriptors slot = first (read_faults l pool descriptors slot)
