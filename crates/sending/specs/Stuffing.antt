-- "Content, then two check octets [..], a zero after every fifth one in a row, even where the flag follows; then one flag, which opens the next unit."
use Rattle.std.specs.Prelude.{Bool, true, false, cond, List, [], ◌∷◌, ◌++◌, ℕ, ◌+◌, eqb}
use Rattle.bits.specs.Octets.{line_bits}
use Rattle.bits.specs.Machine.{run, outs}
use Rattle.fcs.specs.Check.{check_octets}

-- the ones in a row after a bit, from those before it; the zero that is put in after a fifth ends them
abbrev pub ones_after : ℕ → Bool → ℕ
ones_after ones false = 0
ones_after ones true = cond (eqb ones 4) 0 (ones + 1)

-- what is put in after a bit
abbrev pub zero_after : ℕ → Bool → List Bool
zero_after ones false = []
zero_after ones true = cond (eqb ones 4) (false ∷ []) []

-- bits with the zeros put in, and the ones in a row then
abbrev pub stuffed : ℕ → List Bool → List Bool
stuffed = outs ones_after (λ ones b. b ∷ zero_after ones b)

abbrev pub ones_over : ℕ → List Bool → ℕ
ones_over = run ones_after

-- the zeros alone
abbrev pub zeros_in : ℕ → List Bool → List Bool
zeros_in = outs ones_after zero_after

abbrev pub flag : List Bool
flag = false ∷ true ∷ true ∷ true ∷ true ∷ true ∷ true ∷ false ∷ []

-- the bits of a unit, as they go out after a flag
abbrev pub on_line : List Bool → List Bool
on_line bits = stuffed 0 bits ++ flag

-- the bits of a unit: content, then its two check octets
unfoldable pub unit_bits : List ℕ → List Bool
unit_bits content = line_bits (content ++ check_octets content)

unfoldable pub unit_line : List ℕ → List Bool
unit_line content = on_line (unit_bits content)
