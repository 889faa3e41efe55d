-- The file of a line's octets, and what the program reads and writes.
use Rattle.std.specs.Prelude.{ℕ, List, ◌++◌, replicate, Option}
use Rattle.std.specs.Io.KnownBytes.{Consumes, Appends}
use Rattle.board.specs.Link.{new_link}
use Rattle.link.specs.Calls.{open_answer}
use Rattle.lineview_board.specs.View.{row_one}
use Rattle.unitdump_packets.specs.Packets.{file_header}
use Rattle.unitdump_line.specs.Units.{Taken, all_packets, Takes}

-- the booking of lineview (row 1, 16 slots, the mask all ones, the switches off), opened and no more, before the first line octet
abbrev pub begun_on : List ℕ → List ℕ → Taken
begun_on pool descriptors =
    let o = open_answer new_link row_one pool descriptors in
    record { held = record { link = o.link; pool = o.pool; descriptors = o.descriptors }; octets = 0 }

-- on clear memory
abbrev pub begun : Taken
begun = begun_on (replicate 4480 0) (replicate 32 0)

-- its header, then the packets of the units that the octets bring
abbrev pub file_of : List ℕ → List ℕ
file_of octets = file_header ++ all_packets begun octets

-- Some line octets are read from the input, and their packets stand in the output, behind what it held; the bytes that a reader has left and
-- those that a writer holds are told where they are known. The booking is what the octets make of it.
abbrev pub Dumps : Taken → Taken → Option (List ℕ) → Option (List ℕ) → Option (List ℕ) → Option (List ℕ) → Type 0
Dumps before after input input' output output' =
    (octets : List ℕ) × Consumes input input' octets × Takes before after output output' octets

-- the same, whatever becomes of the booking
abbrev pub DumpsAll : Taken → Option (List ℕ) → Option (List ℕ) → Option (List ℕ) → Option (List ℕ) → Type 0
DumpsAll before input input' output output' = (after : Taken) × Dumps before after input input' output output'

-- what was read stands in the output as a whole file
abbrev pub DumpedFile : Option (List ℕ) → Option (List ℕ) → Option (List ℕ) → Option (List ℕ) → Type 0
DumpedFile input input' output output' = (octets : List ℕ) × Consumes input input' octets × Appends output output' (file_of octets)
