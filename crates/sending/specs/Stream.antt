-- What a booking's outputs put on the line: flags, then each unit with its closing flag.
use Rattle.std.specs.Prelude.{Bool, List, [], ◌∷◌, ◌++◌, ℕ, zero, suc}
use Rattle.sending.specs.Stuffing.{flag, unit_line}

-- "Before any content [fill] puts out one flag only": so many of them
unfoldable pub flags : ℕ → List Bool
flags zero = []
flags (suc n) = flag ++ flags n

-- "The first output of a booking begins with a flag": if no fill has put one out, the first unit has one before it
abbrev pub flags_before : ℕ → List (List ℕ) → ℕ
flags_before zero [] = 0
flags_before zero (c ∷ cs) = 1
flags_before (suc n) cs = suc n

-- units by their contents, each opened by the flag that stands before it
unfoldable pub units_line : List (List ℕ) → List Bool
units_line [] = []
units_line (c ∷ cs) = unit_line c ++ units_line cs

-- n fills before any content, then these units
unfoldable pub stream_line : ℕ → List (List ℕ) → List Bool
stream_line n cs = flags (flags_before n cs) ++ units_line cs
