-- What a list of calls is to the error monitors, from the calls' arguments and the lent memory by the scope's rules. There is no monitor, no
-- event bit and no record in it.
use Rattle.std.specs.Prelude.{ℕ, zero, suc, Option, Some, None, Bool, true, false, cond, List, [], ◌∷◌, ◌++◌, eqb, drop}
use Rattle.bits.specs.Machine.{run}
use Rattle.framing.specs.Delimitation.{Receiver, new_receiver}
use Rattle.framing.specs.Representation.{encode, encode_area}
use Rattle.monitor.specs.declared.Limits.{Limits}
use Rattle.monitor.specs.ErrorMonitors.{ErrorMonitor, suerm, aerm}
use Rattle.board.specs.declared.Settings.{Settings}
use Rattle.board.specs.declared.UnitState.{UnitState}
use Rattle.board.specs.declared.Link.{Link}
use Rattle.board.specs.Limits.{monitor_limits}
use Rattle.board.specs.Link.{new_settings, new_units, new_supervision, new_transmitter}
use Rattle.records.specs.declared.Happening.{Happening}
use Rattle.units.specs.Indications.{line_receiver, line_indications}
use Rattle.units.specs.Units.{unit_memory, unit_memory_after, happenings}
use Rattle.link.specs.declared.Command.{Command}
use Rattle.link.specs.declared.Command.TheVariants.{MonitorOff, StartFailure, StartAlignment, MustHandOver, CountOctets}
use Rattle.link.specs.Commands.{command_of, obeying}
use Rattle.link.specs.Refusals.{first}
use Rattle.link.specs.Calls.{opened_link}
use Rattle.calls.specs.Call.{Call, opens, receive, command, clear, send, fill, read, reads_number, hand_back, wipe, faults}

-- ---- all of a link that receiving and refusing rest on: no monitor, no event bits
pub record Front : Type 0 where
  pub opened : Bool
  pub settings : Settings
  pub receiver : Receiver
  pub units : UnitState

abbrev pub new_front : Front
new_front = record { opened = false; settings = new_settings; receiver = new_receiver; units = new_units }

-- a link with this front and nothing else of its own, so that the tables of faults can be asked
abbrev pub link_of_front : Front → Link
link_of_front f =
    record {
      opened = f.opened;
      settings = f.settings;
      line = record { state = encode f.receiver; area = encode_area f.receiver };
      units = f.units;
      supervision = new_supervision;
      transmitter = new_transmitter;
    }

-- the number of a call: a link that a list of calls leaves is never malformed, so the first fault of a table is never found
unfoldable pub number_of : Front → Call → ℕ
number_of f c = first (drop 1 (faults (link_of_front f) c))

-- what line octets bring, in order
abbrev pub brought : Front → List ℕ → List ℕ → List ℕ → List Happening
brought f octets pool descriptors =
    happenings f.settings (unit_memory f.units pool descriptors) (line_indications f.settings.m f.receiver octets)

-- the front after a call that is answered 0
abbrev pub front_done : Front → Call → Front
front_done f (opens s pool descriptors) = record { opened = true; settings = s; receiver = new_receiver; units = (opened_link s).units }
front_done f (receive octets pool descriptors records) =
    record {
      opened = f.opened;
      settings = f.settings;
      receiver = line_receiver f.settings.m f.receiver octets;
      units = (unit_memory_after f.settings (unit_memory f.units pool descriptors) (line_indications f.settings.m f.receiver octets)).units;
    }
front_done f (command n) =
    record { opened = f.opened; settings = f.settings; receiver = f.receiver; units = (obeying (command_of n) (link_of_front f)).units }
front_done f (clear chosen) = f
front_done f (send content output) = f
front_done f (fill output) = f
front_done f (read pool descriptors slot) = f
front_done f (reads_number pool descriptors slot) = f
front_done f (hand_back pool descriptors slot) = f
front_done f (wipe octets words) = new_front

-- "a refused call adds no event": it leaves the front as it is
abbrev pub front_next : Front → Call → Front
front_next f c = cond (eqb (number_of f c) 0) (front_done f c) f

-- ---- what a call is to the error monitors
pub data Action : Type 0 where
  books : Limits → Action
  brings : List Happening → Action
  starts : ErrorMonitor → Action
  stops wipes nothing : Action
  clears : ℕ → Action

-- "Command 2 answered 0 is a start; command 1 answered 0, another monitor's start and a wipe are stops."
abbrev pub command_action : Option Command → Action
command_action (Some MonitorOff) = stops
command_action (Some StartFailure) = starts suerm
command_action (Some StartAlignment) = starts aerm
command_action (Some MustHandOver) = nothing
command_action (Some CountOctets) = nothing
command_action None = nothing

abbrev pub action_done : Front → Call → Action
action_done f (opens s pool descriptors) = books (monitor_limits s)
action_done f (receive octets pool descriptors records) = brings (brought f octets pool descriptors)
action_done f (command n) = command_action (command_of n)
action_done f (clear chosen) = clears chosen
action_done f (send content output) = nothing
action_done f (fill output) = nothing
action_done f (read pool descriptors slot) = nothing
action_done f (reads_number pool descriptors slot) = nothing
action_done f (hand_back pool descriptors slot) = nothing
action_done f (wipe octets words) = wipes

abbrev pub action_of : Front → Call → Action
action_of f c = cond (eqb (number_of f c) 0) (action_done f c) nothing

-- ---- the history
-- "Events are the closed units not empty or short, errored unless good, and the octet ticks in octet counting, errored": errored or not, in order
abbrev pub events : List Happening → List Bool
events [] = []
events (h ∷ hs) = cond h.event (h.errored ∷ events hs) (events hs)

-- whether thing k of them, counted from 0, is an event
abbrev pub is_event : List Happening → ℕ → Bool
is_event [] k = false
is_event (h ∷ hs) zero = h.event
is_event (h ∷ hs) (suc k) = is_event hs k

-- the monitor that was started last, if nobody has stopped it since, and the events since then, oldest first
pub data Since : Type 0 where
  stopped : Since
  started : ErrorMonitor → List Bool → Since

-- "T and D are those given to the last open answered 0"
pub record History : Type 0 where
  pub limits : Limits
  pub since : Since

abbrev pub new_history : History
new_history = record { limits = record { t = 0; d = 0; a = 0 }; since = stopped }

abbrev pub with_events : Since → List Bool → Since
with_events stopped es = stopped
with_events (started x h) es = started x (h ++ es)

abbrev pub history_next : History → Action → History
history_next h (books l) = record { limits = l; since = stopped }
history_next h (brings hs) = record { limits = h.limits; since = with_events h.since (events hs) }
history_next h (starts x) = record { limits = h.limits; since = started x [] }
history_next h stops = record { limits = h.limits; since = stopped }
history_next h wipes = record { limits = h.limits; since = stopped }
history_next h nothing = h
history_next h (clears chosen) = h

-- over a list of calls
pub record Past : Type 0 where
  pub front : Front
  pub history : History

abbrev pub new_past : Past
new_past = record { front = new_front; history = new_history }

abbrev pub past_next : Past → Call → Past
past_next p c = record { front = front_next p.front c; history = history_next p.history (action_of p.front c) }

unfoldable pub past_after : List Call → Past
past_after cs = run past_next new_past cs
