-- The check by whole octets: four tables of 256 words, one behind the other.
use Rattle.std.specs.Prelude.{false, List, [], ◌∷◌, ℕ, zero, suc, ◌+◌, ◌*◌, ◌/◌, ◌%◌, replicate}
use Rattle.fcs.specs.Check.{check_bits}

-- the register after n zero bits
abbrev pub zeros : ℕ → ℕ → ℕ
zeros n r = check_bits r (replicate n false)

-- n words of a table by its rule, the first that at i
unfoldable pub table_from : (ℕ → ℕ) → ℕ → ℕ → List ℕ
table_from rule i zero = []
table_from rule i (suc n) = rule i ∷ table_from rule (suc i) n

-- 1,024 words: that at 256 * j + k, with k below 256, is the register after 8 * (j + 1) zero bits from k
unfoldable pub check_table : List ℕ
check_table = table_from (λ i. zeros (8 * (i / 256 + 1)) (i % 256)) 0 1024
