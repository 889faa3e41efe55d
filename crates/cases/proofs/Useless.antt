-- The program that the calls are proved to be is useful; the others are not.
use Prim.Native.Nat.{ℕ}
use mathlib.Core.Path.{◌≡◌, refl}
use mathlib.Core.List.{List, [], ◌∷◌}
use native.Mathlib.Omega.{arith}
use Rattle.bits.specs.Octets.{bits_of, line_bits, octet_of, packed, whole_octets, bits_after}
use Rattle.fcs.specs.Check.{check_of, check_octets}
use Rattle.framing.specs.Delimitation.{step_bit}
use Rattle.framing.specs.Verdict.{verdict_of}
use Rattle.sending.specs.Stuffing.{unit_bits, unit_line}
use Rattle.sending.specs.Packing.{octets_out, still_waiting}
use Rattle.monitor.specs.Monitor.{step}
use Rattle.filter.specs.Memory.{settled}
use Rattle.memory.specs.Lent.{wiped, zeros, empty_descriptors, with_slot, with_descriptor, filled, next_slot}
use Rattle.board.specs.Link.{clear_area}
use Rattle.board.specs.Malformed.{no_ones, zero_past, in_range, line_out, counter_out, monitor_out, transmitter_out, open_malformed, is_new, malformed}
use Rattle.board.specs.Rows.{row_of, table}
use Rattle.records.specs.Happening.{noted}
use Rattle.records.specs.Record.{record_of, supervision_after, records_of}
use Rattle.units.specs.Indications.{line_receiver, line_indications}
use Rattle.units.specs.Units.{good_unit, errored_unit, closed_unit, octet_effect, effect_of, unit_memory_after, happenings}
use Rattle.reception.specs.Line.{line_happenings, board_after, line_records}
use Rattle.link.specs.Refusals.{fits_memory, first, open_number, command_number}
use Rattle.link.specs.Commands.{command_of, obeyed}
use Rattle.link.specs.Calls.{open_answer, command_answer}
use Rattle.input.specs.Refusals.{receive_number}
use Rattle.input.specs.Receive.{receive_answer}
use Rattle.output.specs.Refusals.{send_number, fill_number}
use Rattle.output.specs.Output.{unit_out, fill_out, send_answer, fill_answer}
use Rattle.calls.specs.Call.{answer}
use Rattle.cases.specs.Useless.{Useful, first_only, NoneUseless}

useful : Useful answer
unfolding open_answer open_number command_answer command_number receive_answer receive_number send_answer send_number fill_answer fill_number unit_out fill_out octets_out still_waiting bits_after first fits_memory in_range zeros wiped command_of obeyed malformed open_malformed is_new zero_past no_ones line_out counter_out monitor_out transmitter_out clear_area line_bits bits_of octet_of packed whole_octets step_bit verdict_of step noted supervision_after records_of record_of line_happenings line_records board_after line_receiver line_indications happenings unit_memory_after effect_of octet_effect closed_unit errored_unit good_unit settled next_slot with_slot with_descriptor filled empty_descriptors unit_bits unit_line check_octets check_of row_of table
useful =
    record { reads-back = (refl, refl); reads_other = (refl, refl); wipes = refl; second-event = refl; none-good = refl; two_good = refl }

first_stops : ¬ Useful first_only
unfolding open_answer open_number command_answer command_number receive_answer receive_number first fits_memory in_range zeros command_of obeyed malformed open_malformed is_new zero_past no_ones line_out counter_out monitor_out transmitter_out clear_area line_bits bits_of octet_of packed whole_octets step_bit verdict_of step noted supervision_after records_of record_of line_happenings line_records board_after line_receiver line_indications happenings unit_memory_after effect_of octet_effect closed_unit errored_unit next_slot empty_descriptors row_of table
first_stops u = omega (arith, u.second-event)

two-heads : (xs : List ℕ) → xs ≡ 0x1f ∷ 2 ∷ 3 ∷ [] → xs ≡ 1 ∷ 2 ∷ 3 ∷ [] → ⊥
two-heads xs p q = cc

no-wipe : ◌≡◌ {A = List (List ℕ)} ((1 ∷ []) ∷ (1 ∷ []) ∷ []) ((0 ∷ []) ∷ (0 ∷ []) ∷ []) → ⊥
no-wipe e = cc

pub none-useless : NoneUseless
none-useless =
    record {
      useful = useful;
      not-refusing = λ n u. omega (arith, u.reads-back.0);
      not-fixed = λ a u. two-heads _ u.reads-back.1 u.reads_other.1;
      not-idle = λ u. no-wipe u.wipes;
      not-first-only = first_stops;
      not-invented = λ n u. omega (arith, u.none-good, u.two_good);
    }
