-- The sender, as clauses and definitions see it: where it is in the output area, what waits, and the ones sent in a row.
use Rattle.std.specs.Prelude.{ℕ, ◌^◌, ◌≤◌, ◌<◌}

pub record Sender : Type 0 where
  pub at : ℕ
  pub count : ℕ
  pub wait : ℕ
  pub ones : ℕ

-- at most seven bits wait, the waiting octet is zero past them, and at most four ones in a row stand before the next bit
pub record TxInRange (t : Sender) : Type 0 where
  pub few : t.count ≤ 7
  pub low : t.wait < 2 ^ t.count
  pub short : t.ones ≤ 4
