-- The line of a request: its words with a space between any two.
use Rattle.std.specs.Prelude.{ℕ, ◌≡◌, ◌<◌, ◌≤◌, Bool, List, [], ◌∷◌, ◌++◌, length, if◌then◌else◌, codes, decimal}
use Rattle.std.specs.List.{join_with_byte}
use Rattle.text.specs.Hex.{hex_text}
use Rattle.board.specs.declared.Settings.{Settings}

abbrev pub spaced : List (List ℕ) → List ℕ
spaced words = join_with_byte 32 words

-- each is an octet
pub data AreOctets : List ℕ → Type 0 where
  none : AreOctets []
  more : {x : ℕ} {xs : List ℕ} → x < 256 → AreOctets xs → AreOctets (x ∷ xs)

-- a switch by its name if it is on
abbrev pub switch : Bool → List ℕ → List (List ℕ)
switch on name = if on then name ∷ [] else []

abbrev pub switches : Settings → List (List ℕ)
switches s = switch s.filter (codes "filter") ++ (switch s.itu (codes "itu") ++ switch s.orn (codes "orn"))

-- a mask and the switches that are on
abbrev pub booking : Settings → List (List ℕ)
booking s = hex_text s.mask ∷ switches s

-- settings whose numbers have 16 bits and whose mask is five octets, as those of a link
pub record InRange (s : Settings) : Type 0 where
  pub k : s.k ≤ 65535
  pub m : s.m ≤ 65535
  pub n : s.n ≤ 65535
  pub t : s.t ≤ 65535
  pub d : s.d ≤ 65535
  pub a : s.a ≤ 65535
  pub five : length s.mask ≡ 5
  pub octets : AreOctets s.mask

-- open K M N T D A MASK [filter] [itu] [orn]
abbrev pub open_line : Settings → List ℕ
open_line s =
    spaced (codes "open" ∷ decimal s.k ∷ decimal s.m ∷ decimal s.n ∷ decimal s.t ∷ decimal s.d ∷ decimal s.a ∷ booking s)

-- row R K MASK [filter] [itu] [orn]
abbrev pub row_line : ℕ → Settings → List ℕ
row_line number s = spaced (codes "row" ∷ decimal number ∷ decimal s.k ∷ booking s)
