-- A line fed to a link in any cutting: a list of receive calls, each with line octets and the record area lent to it.
use Rattle.std.specs.Prelude.{ℕ, ◌≡◌, List, [], ◌∷◌, ◌++◌}
use Rattle.bits.specs.Machine.{run, outs}
use Rattle.reception.specs.Line.{Board}
use Rattle.link.specs.Held.{Held}
use Rattle.input.specs.Receive.{ReceiveOutcome, board_of, receive_answer}
use Rattle.input.specs.Promises.{written}

abbrev pub board : Held → Board
board h = board_of h.link h.pool h.descriptors

pub record Feed : Type 0 where
  pub octets : List ℕ
  pub records : List ℕ

abbrev pub answer : Held → Feed → ReceiveOutcome
answer h f = receive_answer h.link f.octets h.pool h.descriptors f.records

-- what one call leaves, and the records that it writes
abbrev pub fed : Held → Feed → Held
fed h f = record { link = (answer h f).link; pool = (answer h f).pool; descriptors = (answer h f).descriptors }

abbrev pub wrote : Held → Feed → List ℕ
wrote h f = written (answer h f)

-- the same of all calls, each of which takes what the last one gave back
unfoldable pub held_after : Held → List Feed → Held
held_after = run fed

unfoldable pub records_fed : Held → List Feed → List ℕ
records_fed = outs fed wrote

-- the line octets of the calls
unfoldable pub octets_fed : List Feed → List ℕ
octets_fed [] = []
octets_fed (f ∷ fs) = f.octets ++ octets_fed fs

-- every call is answered 0
pub data Answered : Held → List Feed → Type 0 where
  none : {h : Held} → Answered h []
  more : {h : Held} {f : Feed} {fs : List Feed} → (answer h f).number ≡ 0 → Answered (fed h f) fs → Answered h (f ∷ fs)
