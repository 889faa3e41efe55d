-- "Each call prints its name and number, then what else it answers, on one line."
use Rattle.std.specs.Prelude.{ℕ, ◌/◌, List, [], ◌∷◌, ◌++◌, length, take, codes, decimal}
use Rattle.std.specs.Simd.{first_chunks}
use Rattle.std.specs.List.{flat_map}
use Rattle.text.specs.Hex.{hex_text}
use Rattle.board.specs.Limits.{record_octets}
use Rattle.console_print.specs.Lines.{line}

-- open, command, clear and hand back: "`open 0`"
abbrev pub done_line : List ℕ → ℕ → List ℕ
done_line name number = line (name ∷ decimal number ∷ [])

-- "`wipe`"
abbrev pub wiped_line : List ℕ
wiped_line = line (codes "wipe" ∷ [])

-- "a line `record HEX` for each record", the first so many of the area
abbrev pub record_line : List ℕ → List ℕ
record_line octets = line (codes "record" ∷ hex_text octets ∷ [])

unfoldable pub record_lines : ℕ → List ℕ → List ℕ
record_lines count records = flat_map record_line (take count (first_chunks record_octets (length records / record_octets) records))

-- "`receive 0 COUNT` followed by a line for each record"
abbrev pub received_lines : ℕ → ℕ → List ℕ → List ℕ
received_lines number count records = line (codes "receive" ∷ decimal number ∷ decimal count ∷ []) ++ record_lines count records

-- "`send 0 COUNT HEX` and `fill 0 COUNT HEX` (the octets written; `-` for none)"
abbrev pub made_line : List ℕ → ℕ → List ℕ → List ℕ
made_line name number octets = line (name ∷ decimal number ∷ decimal (length octets) ∷ hex_text octets ∷ [])

-- "`read 0 HEX` (octets or `-`)"
abbrev pub read_line : ℕ → List ℕ → List ℕ
read_line number octets = line (codes "read" ∷ decimal number ∷ hex_text octets ∷ [])

-- "A line that can't be read prints `? LINE-NUMBER`"
abbrev pub unreadable_line : ℕ → List ℕ
unreadable_line number = line (codes "?" ∷ decimal number ∷ [])
