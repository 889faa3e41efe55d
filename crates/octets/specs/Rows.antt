-- "for each of the eight runs of ones and each of 256 octets, the kept bits, their number and the new run; octets in which a flag or abort ends go to the bit rule"
use Rattle.std.specs.Prelude.{ℕ, ◌+◌, ◌*◌, ◌/◌, ◌%◌, min, Bool, true, false, not, ◌&&◌, cond, List, [], ◌∷◌, eqb, length}
use Rattle.bits.specs.Octets.{bits_of, octet_of}
use Rattle.bits.specs.Machine.{run, outs}
use Rattle.fcs.specs.Table.{table_from}

-- ---- the bit rule, as far as it rests on the run of ones alone
-- "A one: R rises, not above 7." A zero: "R becomes 0."
abbrev pub run_next : ℕ → Bool → ℕ
run_next r true = min (r + 1) 7
run_next r false = 0

-- "A zero: after R = 5 it is removed"; what no flag or abort ends with is kept else
abbrev pub kept_of : ℕ → Bool → List Bool
kept_of r true = true ∷ []
kept_of r false = cond (eqb r 5) [] (false ∷ [])

-- over bits: the new run, and the kept bits
abbrev pub run_over : ℕ → List Bool → ℕ
run_over = run run_next

abbrev pub kept : ℕ → List Bool → List Bool
kept = outs run_next kept_of

-- no flag and no abort ends in the bits: a one or a zero after R = 6 ends one
unfoldable pub plain : ℕ → List Bool → Bool
plain r [] = true
plain r (b ∷ bs) = not (eqb r 6) && plain (run_next r b) bs

-- ---- a row
-- an octet in which a flag or an abort ends
abbrev pub marked : ℕ
marked = 16777216

-- the kept bits as a number, the new run at 256, their number at 65,536; with a mark the new run alone
unfoldable pub row_of : ℕ → ℕ → ℕ
row_of r x =
    let bs = bits_of 8 x in
    cond (plain r bs) (octet_of (kept r bs) + run_over r bs * 256 + length (kept r bs) * 65536) (marked + run_over r bs * 256)

-- the table: 256 rows for each run
unfoldable pub row_table : List ℕ
row_table = table_from (λ i. row_of (i / 256) (i % 256)) 0 2048
