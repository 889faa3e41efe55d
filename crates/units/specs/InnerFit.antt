-- What the unit state, the monitor and the lent memory obey while a link is open.
use Rattle.std.specs.Prelude.{◌≡◌, ℕ, ◌*◌, ◌<◌, ◌≤◌, List, length}
use Rattle.bits.specs.Format.{basic}
use Rattle.board.specs.declared.Settings.{Settings}
use Rattle.board.specs.declared.UnitState.{UnitState}

-- the lent memory is that of K slots, the next slot is one of them, and N's counter runs
pub record Fits (s : Settings) (d : UnitState) (pool descriptors : List ℕ) : Type 0 where
  pub slots : (1 ≤ s.k) × (s.k ≤ 16)
  pub octets : length pool ≡ basic.slot * s.k
  pub words : length descriptors ≡ 2 * s.k
  pub next : d.slots.next < s.k
  pub counter : 1 ≤ d.counting.left
  pub reload : 1 ≤ s.n
