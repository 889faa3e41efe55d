-- "`slots` prints `slot I STATUS LENGTH HEX` (all 280 octets) for each slot that is lent, and `end`."
use Rattle.std.specs.Prelude.{ℕ, ◌+◌, ◌/◌, List, [], ◌∷◌, ◌++◌, length, codes, decimal}
use Rattle.std.specs.Simd.{first_chunks}
use Rattle.memory.specs.Lent.{status_of, length_of}
use Rattle.text.specs.Hex.{hex_text}
use Rattle.console_print.specs.Lines.{line}

-- a slot's number, its two words, its octets
abbrev pub slot_line : ℕ → List ℕ → List ℕ → List ℕ
slot_line number octets words =
    line (codes "slot" ∷ decimal number ∷ decimal (status_of words 0) ∷ decimal (length_of words 0) ∷ hex_text octets ∷ [])

-- the slots from a number on, as far as there are octets and words of them
unfoldable pub slots_from : ℕ → List (List ℕ) → List (List ℕ) → List ℕ
slots_from number (octets ∷ slots) (words ∷ descriptors) = slot_line number octets words ++ slots_from (number + 1) slots descriptors
slots_from number [] descriptors = []
slots_from number (octets ∷ slots) [] = []

-- each slot that is whole in both areas
unfoldable pub slot_lines : List ℕ → List ℕ → List ℕ
slot_lines pool descriptors =
    slots_from 0 (first_chunks 280 (length pool / 280) pool) (first_chunks 2 (length descriptors / 2) descriptors) ++ line (codes "end" ∷ [])
