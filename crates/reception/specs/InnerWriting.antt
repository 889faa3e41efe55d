-- The same as the code has it: with the record area and the number of records written.
use Rattle.std.specs.Prelude.{ℕ, ◌+◌, ◌*◌, ◌≤◌, ◌≡◌, List, length}
use Rattle.board.specs.InnerRanges.{MonitorInRange}
use Rattle.framing.specs.declared.Line.{Line}
use Rattle.framing.specs.Representation.{decode}
use Rattle.framing.specs.InnerReading.{IsWellFormed}
use Rattle.board.specs.declared.Settings.{Settings}
use Rattle.units.specs.InnerFit.{Fits}
use Rattle.units.specs.Indications.{line_receiver, line_indications}
use Rattle.indications.specs.InnerWriting.{CallState, indications_done}
use Rattle.reception.specs.declared.Passed.{Passed}

-- what `Able` asks, of what the code holds, its room apart
pub record StateInRange (s : Settings) (w : CallState) : Type 0 where
  pub monitor : MonitorInRange s w.supervision.monitor
  pub fits : Fits s w.unit_memory.units w.unit_memory.pool w.unit_memory.descriptors

-- what line octets do: the receiver and the indications of the definition, and all that the next ones need; one octet brings three records at most
pub record LineTaken (s : Settings) (line : Line) (area : List ℕ) (octets : List ℕ) (w : CallState) (r : Passed) (area' : List ℕ) (w' : CallState) : Type 0 where
  pub receiver : decode r.line area' ≡ line_receiver s.m (decode line area) octets
  pub held : IsWellFormed s.m r.line area'
  pub done : w' ≡ indications_done s w (line_indications s.m (decode line area) octets)
  pub ready : StateInRange s w'
  pub few : w'.count ≤ w.count + 3 * length octets
