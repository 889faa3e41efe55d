-- "Work it half an octet at a time from sixteen constants that fit on one printed line."
use Rattle.std.specs.Prelude.{◌≡◌, List, [], ◌∷◌, ℕ, ◌/◌, ◌%◌, get_or}
use Rattle.std.specs.Int.Bits.{bit_xor}
use Rattle.fcs.specs.Check.{check_octets}

-- the sixteen constants: the one at n is what four zero bits make of a register n
unfoldable pub constants : List ℕ
constants = 0x0000 ∷ 0x1081 ∷ 0x2102 ∷ 0x3183 ∷ 0x4204 ∷ 0x5285 ∷ 0x6306 ∷ 0x7387 ∷ 0x8408 ∷ 0x9489 ∷ 0xa50a ∷ 0xb58b ∷ 0xc60c ∷ 0xd68d ∷ 0xe70e ∷ 0xf78f ∷ []

-- half an octet: the register moves down by four bits, and the constant at its low four bits, turned where the half octet has ones, is added
abbrev pub check_half : ℕ → ℕ → ℕ
check_half register half = bit_xor (register / 16) (get_or constants (bit_xor register half % 16) 0)

-- the half octets of octets in the order of the line: of each the low one first
unfoldable pub half_octets : List ℕ → List ℕ
half_octets [] = []
half_octets (x ∷ xs) = x % 16 ∷ x / 16 ∷ half_octets xs

-- An example to follow by hand, the fill-in unit 1F 02 00: its half octets, the register after each, and the complement of the last, low octet first.
abbrev pub WorkedExample : Type 0
WorkedExample =
    (half_octets (0x1f ∷ 0x02 ∷ 0x00 ∷ []) ≡ 0xf ∷ 0x1 ∷ 0x2 ∷ 0x0 ∷ 0x0 ∷ 0x0 ∷ [])
    × (check_half 0xffff 0xf ≡ 0x0fff)
    × (check_half 0x0fff 0x1 ≡ 0xe7f1)
    × (check_half 0xe7f1 0x2 ≡ 0x3ffc)
    × (check_half 0x3ffc 0x0 ≡ 0xc5f3)
    × (check_half 0xc5f3 0x0 ≡ 0x3ddc)
    × (check_half 0x3ddc 0x0 ≡ 0xc5d1)
    × (check_octets (0x1f ∷ 0x02 ∷ 0x00 ∷ []) ≡ 0x2e ∷ 0x3a ∷ [])
