-- What is promised of the rows: they are the bit rule. The proofs are in proofs/Plain.antt and proofs/Rows.antt.
use Rattle.std.specs.Prelude.{ℕ, ◌+◌, ◌*◌, ◌≤◌, ◌<◌, ◌≡◌, Bool, true, List, [], ◌++◌, length, get_or}
use Rattle.framing.specs.Delimitation.{inside, hunts, receiver_after, findings}
use Rattle.octets.specs.Rows.{run_over, kept, plain, row_of, row_table}

-- Each row is that of its run and octet.
abbrev pub EachRow : Type 0
EachRow = (r x : ℕ) → r < 8 → x < 256 → get_or row_table (r * 256 + x) 0 ≡ row_of r x

-- Inside a unit, bits in which no flag and no abort ends change the run and are gathered but for removed zeros, and nothing is found, as long as the unit
-- can't become long.
abbrev pub PlainInside : Type 0
PlainInside =
    (M r : ℕ) (g bs : List Bool) → plain r bs ≡ true → length g + length bs ≤ 8 * M + 7
    → (receiver_after M (inside r g) bs ≡ inside (run_over r bs) (g ++ kept r bs)) × (findings M (inside r g) bs ≡ [])

-- Hunting, they change the run alone.
abbrev pub PlainHunting : Type 0
PlainHunting =
    (M r : ℕ) (bs : List Bool) → plain r bs ≡ true
    → (receiver_after M (hunts r) bs ≡ hunts (run_over r bs)) × (findings M (hunts r) bs ≡ [])
