-- N's counter over octets in a row.
use Rattle.std.specs.Prelude.{ℕ, zero, suc, ◌-◌, cond, eqb}

-- "The counter runs at all times from N downward, once for each line octet after its eight bits. At zero it reloads": after k octets
unfoldable pub wound_by : ℕ → ℕ → ℕ → ℕ
wound_by n left zero = left
wound_by n left (suc k) = wound_by n (cond (eqb left 1) n (left - 1)) k
