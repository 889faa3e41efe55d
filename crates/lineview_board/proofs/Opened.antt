-- The program's booking opens: neither call is refused.
use mathlib.Core.Path.{◌≡◌, refl}
use lib.ListN.{replicate}
use Rattle.bits.specs.Octets.{line_bits, bits_of}
use Rattle.memory.specs.Lent.{zeros}
use Rattle.board.specs.Link.{new_link, clear_area}
use Rattle.board.specs.Rows.{table, row_of}
use Rattle.board.specs.Malformed.{in_range, is_new, malformed, zero_past, open_malformed, no_ones, line_out, counter_out, monitor_out, transmitter_out}
use Rattle.link.specs.Refusals.{fits_memory, first, open_number, command_number}
use Rattle.link.specs.Commands.{command_of, obeyed}
use Rattle.link.specs.Calls.{open_answer, command_answer, opened_link}
use Rattle.lineview_board.specs.View.{row_one, booking_opened}
use Rattle.lineview_board.specs.Promises.{BookingOpens}

opens : open_number new_link row_one (replicate 4480 0) (replicate 32 0) ≡ 0
unfolding open_number first fits_memory malformed is_new zeros clear_area in_range row_of table
opens = refl

starts : command_number (opened_link row_one) 2 ≡ 0
unfolding command_number command_of first malformed open_malformed zero_past in_range row_of table clear_area no_ones line_bits bits_of line_out counter_out monitor_out transmitter_out
starts = refl

pub booking-opens : BookingOpens
unfolding booking_opened open_answer command_answer command_of obeyed
booking-opens = rw opens (rw starts refl)
