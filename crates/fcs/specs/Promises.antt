-- What is promised of the check. The proofs are in proofs/Residue.antt, proofs/HalfOctets.antt, proofs/Octetwise.antt and proofs/Fours.antt.
use Rattle.std.specs.Prelude.{◌≡◌, List, [], ◌∷◌, ◌++◌, ℕ, ◌+◌, ◌/◌, ◌%◌, ◌<◌, get_or}
use Rattle.std.specs.Int.Bits.{bit_xor}
use Rattle.bits.specs.Octets.{bits_of, line_bits}
use Rattle.bits.specs.Machine.{run}
use Rattle.fcs.specs.Check.{check_bits, check_of, good_residue, check_octets}
use Rattle.fcs.specs.HalfOctets.{check_half, half_octets}
use Rattle.fcs.specs.Table.{check_table}

-- For every content, content followed by its check octets leaves F0B8.
abbrev pub GoodResidue : Type 0
GoodResidue = (content : List ℕ) → check_of (content ++ check_octets content) ≡ good_residue

-- "for every check register and half octet, this step equals four steps of the bit rule"
abbrev pub HalfOctetStep : Type 0
HalfOctetStep = (register half : ℕ) → check_half register half ≡ check_bits register (bits_of 4 half)

-- So the register after octets is that after their half octets.
abbrev pub CheckByHalves : Type 0
CheckByHalves = (octets : List ℕ) → run check_half 0xffff (half_octets octets) ≡ check_of octets

-- An octet's eight bits at once: the register moves down by eight, and the word at its low octet, turned where the octet has ones, is added.
abbrev pub OctetByTable : Type 0
OctetByTable =
    (register octet : ℕ)
    → check_bits register (bits_of 8 octet) ≡ bit_xor (register / 256) (get_or check_table (bit_xor register octet % 256) 0)

-- Four words added, each by its place in a table: what four octets a, b, c and d make of the register.
abbrev pub four_words : List ℕ → ℕ → ℕ → ℕ → ℕ → ℕ → ℕ
four_words table register a b c d =
    bit_xor
    (bit_xor
    (bit_xor (get_or table (768 + bit_xor register a % 256) 0) (get_or table (512 + bit_xor (register / 256) b) 0))
    (get_or table (256 + c) 0))
    (get_or table d 0)

-- Four octets' bits at once, by four words that do not wait for each other.
abbrev pub FourByTable : Type 0
FourByTable =
    (register a b c d : ℕ) → register < 65536 → b < 256 → c < 256 → d < 256
    → check_bits register (line_bits (a ∷ b ∷ c ∷ d ∷ [])) ≡ four_words check_table register a b c d
