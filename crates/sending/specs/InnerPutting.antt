-- What the functions that put bits into an output area need and give.
use Rattle.std.specs.Prelude.{ℕ, ◌+◌, ◌*◌, ◌≤◌, ◌≡◌, Bool, List, length}
use Rattle.std.proofs.lemmas.List.Edits.{sets}
use Rattle.bits.specs.Octets.{octet_of}
use Rattle.sending.specs.declared.Tx.{Tx}
use Rattle.sending.specs.Packing.{octets_out, still_waiting}

-- where the sender is once bits are put
abbrev pub after_bits : Tx → List Bool → ℕ → Tx
after_bits t bs ones =
    record {
      at = t.at + length (octets_out t bs);
      count = length (still_waiting t bs);
      wait = octet_of (still_waiting t bs);
      ones = ones;
    }

-- the output area with those octets in it
abbrev pub area_put : List ℕ → Tx → List Bool → List ℕ
area_put out t bs = sets out t.at (octets_out t bs)

-- what a function that puts bits gives: where the sender is, with `ones` ones in a row, and the area
pub record Puts (out : List ℕ) (t : Tx) (bs : List Bool) (ones : ℕ) (r : Tx) (out' : List ℕ) : Type 0 where
  pub tx : r ≡ after_bits t bs ones
  pub area : out' ≡ area_put out t bs

-- the area has room for these bits
abbrev pub Room : Tx → List Bool → List ℕ → Type 0
Room t bs out = t.at * 8 + t.count + length bs ≤ length out * 8
