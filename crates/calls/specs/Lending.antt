-- A host that lends what the calls ask for.
use Rattle.std.specs.Prelude.{ℕ, ◌*◌, ◌≤◌, ◌≡◌, List, length, replicate}
use Rattle.bits.specs.Format.{basic}
use Rattle.board.specs.declared.Settings.{Settings}
use Rattle.board.specs.Limits.{most_line, record_room}
use Rattle.calls.specs.Call.{Call, opens}

-- a booking opened on wiped memory of its slots
abbrev pub opening : Settings → Call
opening s = opens s (replicate (basic.slot * s.k) 0) (replicate (2 * s.k) 0)

-- what a receive is lent is of the sizes asked for; whatever stands in it
pub record Lent (k : ℕ) (octets pool descriptors records : List ℕ) : Type 0 where
  pub few : length octets ≤ most_line
  pub slots : length pool ≡ basic.slot * k
  pub words : length descriptors ≡ 2 * k
  pub room : record_room * length octets ≤ length records
