-- What is written for the records that are read.
use Rattle.std.specs.Prelude.{ℕ, ◌*◌, ◌/◌, ◌≤◌, List, [], ◌++◌, length, take, drop, Option, None, Some}
use Rattle.std.specs.Simd.{first_chunks}
use Rattle.std.specs.Io.KnownBytes.{Consumes, Appends, IsAtEnd}
use Rattle.bits.specs.Machine.{run, outs}
use Rattle.recordview_lines.specs.declared.lines.Run.{Run}
use Rattle.recordview_lines.specs.declared.viewer.Viewer.{Viewer}
use Rattle.recordview_lines.specs.Lines.{run_text, torn_text}
use Rattle.recordview_lines.specs.Totals.{totals_text}
use Rattle.recordview_lines.specs.Viewer.{nothing_seen, taken}
use Rattle.recordview_run.specs.declared.Filled.{Filled}
use Rattle.recordview_run.specs.declared.Filled.TheVariants.{Full, Ended, Unread}

-- the whole records in octets, sixteen each, and the octets that are left behind them
abbrev pub records_in : List ℕ → List (List ℕ)
records_in octets = first_chunks 16 (length octets / 16) octets

abbrev pub left_over : List ℕ → List ℕ
left_over octets = drop (length octets / 16 * 16) octets

-- a line that has ended
abbrev pub line_ended : Option Run → List ℕ
line_ended None = []
line_ended (Some r) = run_text r

-- the viewer after a record, and the line that the record ends
abbrev pub viewer_taken : Viewer → List ℕ → Viewer
viewer_taken v octets = (taken v octets).viewer

abbrev pub line_taken : Viewer → List ℕ → List ℕ
line_taken v octets = line_ended (taken v octets).ended

-- the same for records in a row
unfoldable pub viewer_after : Viewer → List (List ℕ) → Viewer
viewer_after v records = run viewer_taken v records

unfoldable pub lines_of : Viewer → List (List ℕ) → List ℕ
lines_of v records = outs viewer_taken line_taken v records

-- the line that has not ended, a torn end and the totals
abbrev pub end_text : Viewer → List ℕ → List ℕ
end_text v torn = line_ended v.run ++ (torn_text torn ++ totals_text v.totals)

-- what is written for all of the octets that still come
unfoldable pub rest_text : Viewer → List ℕ → List ℕ
rest_text v octets = lines_of v (records_in octets) ++ end_text (viewer_after v (records_in octets)) (left_over octets)

-- what is written for octets
abbrev pub view_text : List ℕ → List ℕ
view_text octets = rest_text nothing_seen octets

-- Octets are read from the input, and their lines and totals stand in the output, behind what it held; the bytes that a reader has left and
-- those that a writer holds are told where they are known.
abbrev pub Views : Option (List ℕ) → Option (List ℕ) → Option (List ℕ) → Option (List ℕ) → Type 0
Views input input' output output' = (octets : List ℕ) × Consumes input input' octets × Appends output output' (view_text octets)

-- octets were read to the front of a buffer: to its end, to the end of the input, or until a read failed
abbrev pub IsFilled : Option (List ℕ) → Option (List ℕ) → List ℕ → Filled → Type 0
IsFilled input input' buffer Full = Consumes input input' buffer
IsFilled input input' buffer (Ended n) = (n ≤ length buffer) × Consumes input input' (take n buffer) × IsAtEnd input'
IsFilled input input' buffer (Unread n) = (n ≤ length buffer) × Consumes input input' (take n buffer)
