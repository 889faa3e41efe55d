-- The program's case, computed: the calls one after the other, from the new link to the packet.
use mathlib.Core.Path.{refl}
use Rattle.bits.specs.Octets.{bits_of, line_bits, octet_of, packed, whole_octets}
use Rattle.framing.specs.Delimitation.{step_bit}
use Rattle.framing.specs.InnerReading.{reading}
use Rattle.framing.specs.Verdict.{verdict_of}
use Rattle.filter.specs.Unit.{kind_of, masked, same}
use Rattle.filter.specs.Memory.{settled}
use Rattle.monitor.specs.Monitor.{step}
use Rattle.memory.specs.Lent.{zeros, empty_descriptors, with_descriptor, with_slot, filled, empty_slot, next_slot}
use Rattle.board.specs.Link.{clear_area}
use Rattle.board.specs.Malformed.{no_ones, zero_past, in_range, line_out, counter_out, monitor_out, transmitter_out, open_malformed, is_new, malformed}
use Rattle.board.specs.Rows.{table, row_of}
use Rattle.records.specs.Happening.{noted}
use Rattle.records.specs.Record.{record_of, supervision_after, records_of}
use Rattle.units.specs.Units.{good_unit, errored_unit, closed_unit, octet_effect, effect_of, unit_memory_after, happenings}
use Rattle.units.specs.Indications.{line_receiver, line_indications}
use Rattle.reception.specs.Line.{line_happenings, board_after, line_records}
use Rattle.link.specs.Commands.{command_of, obeyed}
use Rattle.link.specs.Calls.{open_answer, command_answer, read_part, hand_answer}
use Rattle.input.specs.Receive.{receive_answer}
use Rattle.link.specs.Refusals.{first, fits_memory, open_number, command_number, read_number}
use Rattle.input.specs.Refusals.{receive_number}
use Rattle.unitdump_line.specs.Units.{slots_from, slots_back, slot_packets, octet_taken, octet_packets, all_packets}
use Rattle.unitdump_run.specs.Promises.{OneUnit}

pub one-unit : OneUnit
unfolding all_packets octet_taken octet_packets slots_from slots_back slot_packets bits_of line_bits octet_of packed whole_octets step_bit reading verdict_of kind_of masked same settled step zeros empty_descriptors with_descriptor with_slot filled empty_slot next_slot clear_area no_ones zero_past in_range line_out counter_out monitor_out transmitter_out open_malformed is_new malformed table row_of noted record_of supervision_after records_of good_unit errored_unit closed_unit octet_effect effect_of unit_memory_after happenings line_receiver line_indications line_happenings board_after line_records open_answer command_of obeyed command_answer read_part hand_answer receive_answer first fits_memory open_number command_number read_number receive_number
one-unit = refl
