-- What all of the program's line octets do to its booking, and what it reads and writes.
use Rattle.std.specs.Prelude.{ℕ, List, Option, ◌≡◌}
use Rattle.std.specs.Io.KnownBytes.{Consumes, Appends}
use Rattle.bits.specs.Machine.{run}
use Rattle.link.specs.Held.{Held}
use Rattle.lineview_board.specs.View.{passed, all_written}
use Rattle.lineview_run.specs.declared.Booking.{Booking}

-- the board that a booking's link and memory make up
abbrev pub held : Booking → Held
held b = record { link = b.link; pool = b.pool; descriptors = b.descriptors }

-- the booking after line octets, "one octet at a time"
unfoldable pub all_passed : Held → List ℕ → Held
all_passed h octets = run passed h octets

-- Some line octets are read from the input, and their records stand in the output, behind what it held; the bytes that a reader has left and
-- those that a writer holds are told where they are known. The booking is what the octets make of it.
abbrev pub Views : Held → Held → Option (List ℕ) → Option (List ℕ) → Option (List ℕ) → Option (List ℕ) → Type 0
Views before after input input' output output' =
    (octets : List ℕ) × Consumes input input' octets × Appends output output' (all_written before octets) × (after ≡ all_passed before octets)

-- the same, whatever becomes of the booking
abbrev pub ViewsAll : Held → Option (List ℕ) → Option (List ℕ) → Option (List ℕ) → Option (List ℕ) → Type 0
ViewsAll before input input' output output' = (after : Held) × Views before after input input' output output'
