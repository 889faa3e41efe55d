-- What the lines of a session do to the console and print, and what it reads and writes.
use Rattle.std.specs.Prelude.{ℕ, ◌+◌, ◌-◌, ◌^◌, min, List, [], ◌∷◌, ◌++◌, cond, eqb, replicate, Option, ◌≡◌}
use Rattle.std.specs.Io.KnownBytes.{Consumes, Appends}
use Rattle.bits.specs.Machine.{run, outs}
use Rattle.console_calls.specs.Console.{Console, new_board, console_of}
use Rattle.console_calls.specs.Lines.{answered}
use Rattle.console_run.specs.declared.Session.{Session}

abbrev pub new_session : Session
new_session = record { board = new_board; ended = 0 }

-- the console, how many lines have ended, and what stands behind the last end
pub record State : Type 0 where
  pub console : Console
  pub ended : ℕ
  pub begun : List ℕ

abbrev pub state_of : Session → List ℕ → List ℕ → List ℕ → List ℕ → List ℕ → State
state_of s begun pool descriptors records output =
    record { console = console_of s.board pool descriptors records output; ended = s.ended; begun = begun }

-- "Lines are counted from 1, comments and unreadable lines included"; the count stays at the most that 64 bits hold
abbrev pub next_number : ℕ → ℕ
next_number ended = min (ended + 1) (2 ^ 64 - 1)

-- the line that has begun, done
unfoldable pub line_passed : State → State
line_passed s =
    record { console = (answered s.console (next_number s.ended) s.begun).console; ended = next_number s.ended; begun = [] }

unfoldable pub line_text : State → List ℕ
line_text s = (answered s.console (next_number s.ended) s.begun).text

-- "reads text commands from standard input, one a line": an octet ends the line, or belongs to it
abbrev pub octet_passed : State → ℕ → State
octet_passed s octet = cond (eqb octet 10) (line_passed s) (record s { begun = s.begun ++ octet ∷ [] })

abbrev pub octet_text : State → ℕ → List ℕ
octet_text s octet = cond (eqb octet 10) (line_text s) []

unfoldable pub all_passed : State → List ℕ → State
all_passed s octets = run octet_passed s octets

unfoldable pub all_text : State → List ℕ → List ℕ
all_text s octets = outs octet_passed octet_text s octets

-- the new board, and memory that is wiped
abbrev pub start : State
start = state_of new_session [] (replicate 4608 0) (replicate 40 0) (replicate 49152 0) (replicate 512 0)

-- what the octets of a whole session print; "the last line may lack its newline"
unfoldable pub session_text : List ℕ → List ℕ
session_text octets = all_text start octets ++ line_text (all_passed start octets)

-- Some octets are read from the input, and what they print stands in the output, behind what it held; the bytes that a reader has left and those
-- that a writer holds are told where they are known.
abbrev pub Answers : State → State → Option (List ℕ) → Option (List ℕ) → Option (List ℕ) → Option (List ℕ) → Type 0
Answers before after input input' out out' =
    (octets : List ℕ) × Consumes input input' octets × Appends out out' (all_text before octets) × (after ≡ all_passed before octets)

-- the same, whatever becomes of the console
abbrev pub AnswersSome : State → Option (List ℕ) → Option (List ℕ) → Option (List ℕ) → Option (List ℕ) → Type 0
AnswersSome before input input' out out' = (after : State) × Answers before after input input' out out'

-- the same, and the line that the input ends in
abbrev pub AnswersAll : State → Option (List ℕ) → Option (List ℕ) → Option (List ℕ) → Option (List ℕ) → Type 0
AnswersAll before input input' out out' =
    (octets : List ℕ) × Consumes input input' octets × Appends out out' (all_text before octets ++ line_text (all_passed before octets))
