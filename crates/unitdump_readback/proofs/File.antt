-- The program's booking is one that reads a line so.
use mathlib.Core.Path.{◌≡◌, refl}
use lib.ListN.{replicate}
use Rattle.memory.specs.Lent.{zeros}
use Rattle.board.specs.Link.{new_link, clear_area}
use Rattle.board.specs.Rows.{table, row_of}
use Rattle.board.specs.Malformed.{in_range, is_new, malformed}
use Rattle.link.specs.Refusals.{fits_memory, first, open_number}
use Rattle.link.specs.Calls.{open_answer}
use Rattle.lineview_board.specs.View.{row_one}
use Rattle.readback.specs.Promises.{line}
use Rattle.unitdump_line.specs.Units.{all_packets}
use Rattle.unitdump_run.specs.File.{begun}
use Rattle.unitdump_readback.specs.Promises.{FileDumped}
use Rattle.unitdump_readback.proofs.Dumped.{all-dumped}

opens : (open_answer new_link row_one (replicate 4480 0) (replicate 32 0)).number ≡ 0
unfolding open_answer open_number first fits_memory malformed is_new zeros clear_area in_range row_of table
opens = refl

pub file-dumped : FileDumped
unfolding row_of table
file-dumped b sent allowed = (all_packets begun (line b), refl, all-dumped b new_link row_one (replicate 4480 0) (replicate 32 0) 0 sent opens refl refl allowed)
