-- How the code holds a receiver: three numbers and the gathering area.
use Rattle.std.specs.Prelude.{ℕ, Bool, List, length, take}
use Rattle.bits.specs.Octets.{line_bits, packed}
use Rattle.framing.specs.declared.Line.{Line}
use Rattle.framing.specs.Delimitation.{Receiver}

abbrev pub line_of : ℕ → Bool → ℕ → Line
line_of r h n = record { run = r; hunting = h; bits = n }

-- the receiver that a line's numbers and an area hold
abbrev pub decode : Line → List ℕ → Receiver
decode l area = record { run = l.run; hunting = l.hunting; gathered = take l.bits (line_bits area) }

-- the numbers and the area that hold a receiver
abbrev pub encode : Receiver → Line
encode s = line_of s.run s.hunting (length s.gathered)

abbrev pub encode_area : Receiver → List ℕ
encode_area s = packed 279 s.gathered
