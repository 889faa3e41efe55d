-- The examples of the history, computed.
use mathlib.Core.Path.{refl}
use Rattle.bits.specs.Octets.{bits_of, line_bits, octet_of, packed, whole_octets, bits_after}
use Rattle.framing.specs.Delimitation.{step_bit}
use Rattle.framing.specs.Verdict.{verdict_of}
use Rattle.monitor.specs.Monitor.{step}
use Rattle.memory.specs.Lent.{zeros, next_slot}
use Rattle.board.specs.Link.{clear_area}
use Rattle.board.specs.Malformed.{no_ones, zero_past, in_range, line_out, counter_out, monitor_out, transmitter_out, open_malformed, is_new, malformed}
use Rattle.records.specs.Happening.{noted}
use Rattle.records.specs.Record.{supervision_after}
use Rattle.units.specs.Indications.{line_receiver, line_indications}
use Rattle.units.specs.Units.{errored_unit, closed_unit, octet_effect, effect_of, unit_memory_after, happenings}
use Rattle.reception.specs.Line.{line_happenings, board_after}
use Rattle.link.specs.Refusals.{fits_memory, first, open_number, command_number, clear_number}
use Rattle.link.specs.Commands.{command_of, obeyed}
use Rattle.link.specs.Calls.{open_answer, command_answer, clear_answer}
use Rattle.input.specs.Refusals.{receive_number}
use Rattle.input.specs.Receive.{receive_answer}
use Rattle.sending.specs.Packing.{octets_out, still_waiting}
use Rattle.output.specs.Refusals.{fill_number}
use Rattle.output.specs.Output.{fill_out, fill_answer}
use Rattle.calls.specs.Call.{link_after}
use Rattle.promises.specs.History.{number_of, past_after}
use Rattle.promises.specs.Examples.{CommandTwoStarts, CommandThreeStarts, RefusedIsNothing, WrongIsEvent, ShortIsNone, StartsAnew, Stopped, AlarmThenClear}

pub command-two-starts : CommandTwoStarts
unfolding past_after number_of first in_range fits_memory zeros command_of
command-two-starts = refl

pub command-three-starts : CommandThreeStarts
unfolding past_after number_of first in_range fits_memory zeros command_of
command-three-starts = refl

pub refused-is-nothing : RefusedIsNothing
unfolding past_after number_of first in_range fits_memory zeros command_of
refused-is-nothing = (refl, refl, refl)

pub wrong-is-event : WrongIsEvent
unfolding past_after number_of first in_range fits_memory zeros command_of happenings line_indications bits_of step_bit effect_of octet_effect closed_unit verdict_of errored_unit obeyed
wrong-is-event = refl

pub short-is-none : ShortIsNone
unfolding past_after number_of first in_range fits_memory zeros command_of happenings line_indications bits_of step_bit effect_of octet_effect closed_unit verdict_of errored_unit obeyed
short-is-none = refl

pub starts-anew : StartsAnew
unfolding past_after number_of first in_range fits_memory zeros command_of
starts-anew = refl

pub both-stop : Stopped
unfolding past_after number_of first in_range fits_memory zeros command_of
both-stop = (refl, refl)

pub alarm-then-clear : AlarmThenClear
unfolding link_after open_answer open_number command_answer command_number clear_answer clear_number receive_answer receive_number fill_answer fill_number fill_out octets_out still_waiting bits_after first fits_memory in_range zeros command_of obeyed malformed open_malformed is_new zero_past no_ones line_out counter_out monitor_out transmitter_out clear_area line_bits bits_of octet_of packed whole_octets step_bit verdict_of step noted supervision_after line_happenings board_after line_receiver line_indications happenings unit_memory_after effect_of octet_effect closed_unit errored_unit next_slot
alarm-then-clear = (refl, refl, refl, refl)
