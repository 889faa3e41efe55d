-- The stuffing rule for a whole octet, as a table: for each of the five counts of ones in a row so far and each of 256 octets, the stuffed bits, their number
-- and the new count of ones.
use Rattle.std.specs.Prelude.{ℕ, ◌+◌, ◌*◌, ◌/◌, ◌%◌, List, length}
use Rattle.bits.specs.Octets.{bits_of, octet_of}
use Rattle.fcs.specs.Table.{table_from}
use Rattle.sending.specs.Stuffing.{stuffed, ones_over, zeros_in}

-- a row: the stuffed bits as a number, how many zeros were put in at 1,024, and the ones in a row then at 4,096
unfoldable pub row_of : ℕ → ℕ → ℕ
row_of ones octet =
    let bits = bits_of 8 octet in
    octet_of (stuffed ones bits) + length (zeros_in ones bits) * 1024 + ones_over ones bits * 4096

-- the table: 256 rows for each count of ones
unfoldable pub stuffing_table : List ℕ
stuffing_table = table_from (λ i. row_of (i / 256) (i % 256)) 0 1280
