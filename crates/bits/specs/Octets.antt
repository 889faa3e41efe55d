-- Octets and their bits. "Each line octet is eight bits, lowest first."
use Rattle.std.specs.Prelude.{ℕ, zero, suc, ◌+◌, ◌*◌, ◌/◌, ◌%◌, ◌<◌, Bool, true, false, List, [], ◌∷◌, ◌++◌, length, take, drop, eqb}

-- the lowest bit of a number
abbrev pub odd : ℕ → Bool
odd x = eqb (x % 2) 1

-- the n lowest bits of a number, lowest first
unfoldable pub bits_of : ℕ → ℕ → List Bool
bits_of zero x = []
bits_of (suc n) x = odd x ∷ bits_of n (x / 2)

-- the bits of octets in the order of the line
unfoldable pub line_bits : List ℕ → List Bool
line_bits [] = []
line_bits (x ∷ xs) = bits_of 8 x ++ line_bits xs

-- a bit as a number
abbrev pub worth : Bool → ℕ
worth true = 1
worth false = 0

-- the number that bits make, the first the lowest
unfoldable pub octet_of : List Bool → ℕ
octet_of [] = 0
octet_of (b ∷ bs) = worth b + octet_of bs * 2

-- n octets that hold the bits, zero past their end
unfoldable pub packed : ℕ → List Bool → List ℕ
packed zero bs = []
packed (suc n) bs = octet_of (take 8 bs) ∷ packed n (drop 8 bs)

-- the whole octets of a run of bits, and the bits after them, up to seven
unfoldable pub whole_octets : List Bool → List ℕ
whole_octets bs = packed (length bs / 8) bs

unfoldable pub bits_after : List Bool → List Bool
bits_after bs = drop (length bs / 8 * 8) bs

-- each is an octet, 0 to 255
pub data Octets : List ℕ → Type 0 where
  none : Octets []
  more : {x : ℕ} {xs : List ℕ} → x < 256 → Octets xs → Octets (x ∷ xs)
