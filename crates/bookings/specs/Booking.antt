-- What the calls of a booking have brought since its opening, from their arguments and the lent memory alone: nothing here looks at a count, at the
-- filter's memory or at a record.
use Rattle.std.specs.Prelude.{ℕ, Option, Some, None, Bool, cond, List, [], ◌∷◌, ◌++◌, eqb}
use Rattle.bits.specs.Octets.{line_bits, whole_octets}
use Rattle.bits.specs.Format.{basic}
use Rattle.bits.specs.Machine.{run, outs}
use Rattle.framing.specs.declared.Verdict.{Verdict}
use Rattle.framing.specs.declared.Verdict.TheVariants.{Short, NotWhole, CheckWrong, Good}
use Rattle.framing.specs.Delimitation.{Finding, closed, abort, long, findings}
use Rattle.framing.specs.Verdict.{verdict_of}
use Rattle.filter.specs.History.{FilterInput, good, command-4}
use Rattle.board.specs.declared.Settings.{Settings}
use Rattle.records.specs.declared.Happening.{Happening}
use Rattle.units.specs.Indications.{Indication, found, octet_end, line_indications}
use Rattle.units.specs.Units.{UnitMemory, unit_memory, is_free, next_unit_memory}
use Rattle.link.specs.declared.Command.{Command}
use Rattle.link.specs.declared.Command.TheVariants.{MonitorOff, StartFailure, StartAlignment, MustHandOver, CountOctets}
use Rattle.link.specs.Commands.{command_of}
use Rattle.calls.specs.Call.{Call, opens, receive, command, clear, send, fill, read, reads_number, hand_back, wipe}
use Rattle.promises.specs.History.{Front, new_front, number_of, brought, front_next}

-- the line octets received; what was found in them, call by call; the good units, each with whether the next slot was empty, and the command 4s, in order;
-- and what happened, of which each has its record
pub record Booking : Type 0 where
  pub octets : List ℕ
  pub found : List Finding
  pub inputs : List FilterInput
  pub happened : List Happening

abbrev pub new_booking : Booking
new_booking = record { octets = []; found = []; inputs = []; happened = [] }

-- "A good unit goes to the filter."
abbrev pub to_filter : UnitMemory → List Bool → Verdict → List FilterInput
to_filter o u Short = []
to_filter o u NotWhole = []
to_filter o u CheckWrong = []
to_filter o u Good = good (whole_octets u) (is_free o) ∷ []

abbrev pub input_of : UnitMemory → Indication → List FilterInput
input_of o (found (closed u)) = to_filter o u (verdict_of basic u)
input_of o (found abort) = []
input_of o (found long) = []
input_of o octet_end = []

unfoldable pub inputs_in : Settings → UnitMemory → List Indication → List FilterInput
inputs_in s = outs (next_unit_memory s) input_of

-- "4 next unit must be handed over (empties the filter)"
abbrev pub input_of_command : Option Command → List FilterInput
input_of_command (Some MonitorOff) = []
input_of_command (Some StartFailure) = []
input_of_command (Some StartAlignment) = []
input_of_command (Some MustHandOver) = command-4 ∷ []
input_of_command (Some CountOctets) = []
input_of_command None = []

-- after a call that is answered 0
abbrev pub booking_done : Front → Booking → Call → Booking
booking_done f b (opens s pool descriptors) = new_booking
booking_done f b (receive octets pool descriptors records) =
    record {
      octets = b.octets ++ octets;
      found = b.found ++ findings f.settings.m f.receiver (line_bits octets);
      inputs = b.inputs ++ inputs_in f.settings (unit_memory f.units pool descriptors) (line_indications f.settings.m f.receiver octets);
      happened = b.happened ++ brought f octets pool descriptors;
    }
booking_done f b (command n) =
    record { octets = b.octets; found = b.found; inputs = b.inputs ++ input_of_command (command_of n); happened = b.happened }
booking_done f b (clear chosen) = b
booking_done f b (send content output) = b
booking_done f b (fill output) = b
booking_done f b (read pool descriptors slot) = b
booking_done f b (reads_number pool descriptors slot) = b
booking_done f b (hand_back pool descriptors slot) = b
booking_done f b (wipe octets words) = new_booking

-- over a list of calls from the new closed link; a refused call adds nothing
pub record Course : Type 0 where
  pub front : Front
  pub booking : Booking

abbrev pub course_next : Course → Call → Course
course_next x c =
    record { front = front_next x.front c; booking = cond (eqb (number_of x.front c) 0) (booking_done x.front x.booking c) x.booking }

unfoldable pub course_after : List Call → Course
course_after cs = run course_next (record { front = new_front; booking = new_booking }) cs

-- the booking that is open after the calls
abbrev pub booking_after : List Call → Booking
booking_after cs = (course_after cs).booking
