-- "The check is CRC-CCITT, generator x^16 + x^12 + x^5 + 1, lowest bit first, preset FFFF; a good unit leaves F0B8."
use Rattle.std.specs.Prelude.{Bool, true, false, not, List, [], ◌∷◌, ℕ, ◌+◌, ◌-◌, ◌/◌, ◌%◌, ◌^◌}
use Rattle.std.specs.Bool.{beq}
use Rattle.std.specs.Int.Bits.{bit_xor}
use Rattle.bits.specs.Octets.{odd, line_bits}
use Rattle.bits.specs.Machine.{run}

-- the generator's powers x^12, x^5 and 1: the register holds x^k at bit 15 - k, and x^16 is the bit that falls out
abbrev pub generator : ℕ
generator = 2 ^ (15 - 12) + 2 ^ (15 - 5) + 2 ^ (15 - 0)

-- two bits differ
abbrev pub differs : Bool → Bool → Bool
differs a b = not (beq a b)

abbrev pub added : Bool → ℕ → ℕ
added true r = bit_xor r generator
added false r = r

-- one bit: the register moves down by one, and the generator is added if the bit that falls out and the bit that comes differ
abbrev pub check_bit : ℕ → Bool → ℕ
check_bit r b = added (differs (odd r) b) (r / 2)

-- bits, first to last
abbrev pub check_bits : ℕ → List Bool → ℕ
check_bits = run check_bit

-- the register after octets, from the preset FFFF
unfoldable pub check_of : List ℕ → ℕ
check_of octets = check_bits 0xffff (line_bits octets)

-- what a good unit leaves
abbrev pub good_residue : ℕ
good_residue = 0xf0b8

-- the two check octets: "the complement, low octet first"
unfoldable pub check_octets : List ℕ → List ℕ
check_octets content = bit_xor (check_of content) 0xffff % 256 ∷ bit_xor (check_of content) 0xffff / 256 ∷ []
