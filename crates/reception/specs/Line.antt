-- A run of line octets: the receiver gives indications, what deals with units happenings, and supervision records.
use Rattle.std.specs.Prelude.{ℕ, List}
use Rattle.board.specs.Limits.{monitor_limits}
use Rattle.board.specs.declared.Supervision.{Supervision}
use Rattle.records.specs.Record.{supervision_after, records_of}
use Rattle.framing.specs.Delimitation.{Receiver}
use Rattle.board.specs.declared.Settings.{Settings}
use Rattle.units.specs.Indications.{line_receiver, line_indications}
use Rattle.records.specs.declared.Happening.{Happening}
use Rattle.units.specs.Units.{UnitMemory, unit_memory_after, happenings}

-- the whole of a receiver's state, the lent memory included
pub record Board : Type 0 where
  pub receiver : Receiver
  pub unit_memory : UnitMemory
  pub supervision : Supervision

-- what line octets bring, in order
unfoldable pub line_happenings : Settings → Board → List ℕ → List Happening
line_happenings s b line = happenings s b.unit_memory (line_indications s.m b.receiver line)

-- the board after them, and their records
unfoldable pub board_after : Settings → Board → List ℕ → Board
board_after s b line =
    record {
      receiver = line_receiver s.m b.receiver line;
      unit_memory = unit_memory_after s b.unit_memory (line_indications s.m b.receiver line);
      supervision = supervision_after (monitor_limits s) b.supervision (line_happenings s b line);
    }

unfoldable pub line_records : Settings → Board → List ℕ → List ℕ
line_records s b line = records_of (monitor_limits s) b.supervision (line_happenings s b line)
