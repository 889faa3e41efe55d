-- Every request within the limits is asked for by a line. The proofs are in proofs/Printed.antt, proofs/Asked.antt and proofs/Booked.antt.
use Rattle.std.specs.Prelude.{ℕ, ◌≡◌, ◌<◌, ◌≤◌, List, [], ◌∷◌, length, Some, codes, decimal}
use Rattle.text.specs.Hex.{hex_text}
use Rattle.board.specs.declared.Settings.{Settings}
use Rattle.board.specs.Rows as rows
use Rattle.console_numbers.specs.Numbers.{decimal_of, octets_of}
use Rattle.console_requests.specs.declared.Area.{Area}
use Rattle.console_requests.specs.declared.Area.TheVariants as areas
use Rattle.console_requests.specs.declared.Request.TheVariants as requests
use Rattle.console_requests.specs.Areas.{name_of, most_of}
use Rattle.console_requests.specs.Requests.{request_of, most_receive, most_send}
use Rattle.console_readback.specs.Lines.{spaced, AreOctets, InRange, open_line, row_line}

-- A number up to 65,535 is read as it is printed.
abbrev pub NumberReadBack : Type 0
NumberReadBack = (n : ℕ) → n ≤ 65535 → decimal_of (decimal n) ≡ Some n

-- Octets, one or more, are read as they are printed.
abbrev pub OctetsReadBack : Type 0
OctetsReadBack = (octets : List ℕ) → AreOctets octets → 0 < length octets → octets_of (hex_text octets) ≡ Some octets

-- "fill", "wipe", "show", "slots", "help", "size auto", and an empty line
abbrev pub WholeLinesAsked : Type 0
WholeLinesAsked =
    (request_of (codes "fill") ≡ Some requests.Fill)
    × (request_of (codes "wipe") ≡ Some requests.Wipe)
    × (request_of (codes "show") ≡ Some requests.Show)
    × (request_of (codes "slots") ≡ Some requests.Slots)
    × (request_of (codes "help") ≡ Some requests.Help)
    × (request_of (codes "size auto") ≡ Some requests.SizeAuto)
    × (request_of [] ≡ Some requests.Nothing)

-- "command C", "clear BITS", "read S", "hand S"
abbrev pub NumbersAsked : Type 0
NumbersAsked =
    (n : ℕ) → n ≤ 65535
    → (request_of (spaced (codes "command" ∷ decimal n ∷ [])) ≡ Some (requests.Command n))
    × (request_of (spaced (codes "clear" ∷ decimal n ∷ [])) ≡ Some (requests.Clear n))
    × (request_of (spaced (codes "read" ∷ decimal n ∷ [])) ≡ Some (requests.Read n))
    × (request_of (spaced (codes "hand" ∷ decimal n ∷ [])) ≡ Some (requests.Hand n))

-- "receive HEX", "send HEX"
abbrev pub OctetsAsked : Type 0
OctetsAsked =
    (octets : List ℕ) → AreOctets octets → 0 < length octets
    → (length octets ≤ most_receive → request_of (spaced (codes "receive" ∷ hex_text octets ∷ [])) ≡ Some requests.Receive)
    × (length octets ≤ most_send → request_of (spaced (codes "send" ∷ hex_text octets ∷ [])) ≡ Some requests.Send)

-- "size pool N", "size desc N", "size records N", "size output N"
abbrev pub SizesAsked : Type 0
SizesAsked =
    (area : Area) (n : ℕ) → n ≤ most_of area
    → request_of (spaced (codes "size" ∷ name_of area ∷ decimal n ∷ [])) ≡ Some (requests.Size area n)

-- "poke pool I V", "poke desc I V"
abbrev pub PokesAsked : Type 0
PokesAsked =
    (place value : ℕ)
    → (place < most_of areas.Pool → value < 256 → request_of (spaced (codes "poke" ∷ codes "pool" ∷ decimal place ∷ decimal value ∷ [])) ≡ Some (requests.PokePool place value))
    × (place < most_of areas.Descriptors → value ≤ 65535 → request_of (spaced (codes "poke" ∷ codes "desc" ∷ decimal place ∷ decimal value ∷ [])) ≡ Some (requests.PokeDescriptor place value))

-- "open K M N T D A MASK [filter] [itu] [orn]"
abbrev pub OpensAsked : Type 0
OpensAsked = (s : Settings) → InRange s → request_of (open_line s) ≡ Some (requests.Open s)

-- "row R K MASK [filter] [itu] [orn]": the settings are those of the row
abbrev pub RowsAsked : Type 0
RowsAsked =
    (number : ℕ) (s : Settings) → number ≤ 65535 → InRange s
    → request_of (row_line number s)
    ≡ Some (requests.Row (record s {
      m = (rows.row_of number).m;
      n = (rows.row_of number).n;
      t = (rows.row_of number).t;
      d = (rows.row_of number).d;
      a = (rows.row_of number).a;
    }))
