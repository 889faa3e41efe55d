-- What is promised of the program. The proofs are in proofs/Opened.antt and proofs/Cases.antt.
use Rattle.std.specs.Prelude.{[], ◌∷◌, ◌≡◌, replicate}
use Rattle.memory.specs.Lent.{empty_descriptors}
use Rattle.monitor.specs.declared.Mode.TheVariants.{Failure}
use Rattle.monitor.specs.Monitor.{started}
use Rattle.board.specs.With.{with_monitor}
use Rattle.link.specs.Calls.{opened_link}
use Rattle.lineview_board.specs.View.{row_one, board_opened, all_written}

-- On the program's clear memory neither call is refused: the booking is open, with the failure monitor started.
abbrev pub BookingOpens : Type 0
BookingOpens =
    board_opened (replicate 4480 0) (replicate 32 0)
    ≡ record { link = with_monitor (opened_link row_one) (started Failure); pool = replicate 4480 0; descriptors = empty_descriptors 16 }

-- "Input 7E 00 00 00 7E gives exactly 05 00 03 00 and twelve octets 00."
abbrev pub P2 : Type 0
P2 =
    all_written (board_opened (replicate 4480 0) (replicate 32 0)) (126 ∷ 0 ∷ 0 ∷ 0 ∷ 126 ∷ [])
    ≡ 5 ∷ 0 ∷ 3 ∷ 0 ∷ replicate 12 0
