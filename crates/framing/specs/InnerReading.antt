-- How the code reads bits: up to a finding, with the gathered bits in the area.
use Rattle.std.specs.Prelude.{ℕ, ◌+◌, ◌*◌, ◌≤◌, ◌≡◌, Bool, true, List, [], ◌∷◌, length, take, Option, None, Some}
use Rattle.bits.specs.Octets.{bits_of, line_bits, packed}
use Rattle.framing.specs.declared.Line.{Line}
use Rattle.framing.specs.declared.Found.{Found}
use Rattle.framing.specs.declared.Found.TheVariants.{Closed, Abort, Long}
use Rattle.framing.specs.declared.Step.{Step}
use Rattle.framing.specs.declared.Fed.{Fed}
use Rattle.framing.specs.Delimitation.{Receiver, Finding, closed, abort, long, next, finds}
use Rattle.framing.specs.Representation.{decode}

-- bits up to and with the first that finds something: the receiver then, the finding, and the bits still to come
pub record Reading : Type 0 where
  pub state : Receiver
  pub found : List Finding
  pub rest : List Bool

abbrev pub read_on : List Finding → Receiver → List Bool → Reading → Reading
read_on [] s bs later = later
read_on (f ∷ fs) s bs later = record { state = s; found = f ∷ fs; rest = bs }

unfoldable pub reading : ℕ → Receiver → List Bool → Reading
reading M s [] = record { state = s; found = []; rest = [] }
reading M s (b ∷ bs) = read_on (finds M s b) (next M s b) bs (reading M (next M s b) bs)

-- numbers in range, and an area in which n bits stand and that is zero past them
pub record Holds (M : ℕ) (l : Line) (n : ℕ) (area : List ℕ) : Type 0 where
  pub run≤7 : l.run ≤ 7
  pub room : l.bits ≤ 8 * M + 7
  pub idle : l.hunting ≡ true → l.bits ≡ 0
  pub fits : n ≤ 8 * M + 7
  pub zeroed : area ≡ packed 279 (take n (line_bits area))

-- the gathered bits stand in the area, and nothing else
abbrev pub IsWellFormed : ℕ → Line → List ℕ → Type 0
IsWellFormed M l area = Holds M l l.bits area

-- what the code says of a finding
abbrev pub shows : List Finding → Option Found
shows [] = None
shows (closed u ∷ fs) = Some (Closed (length u))
shows (abort ∷ fs) = Some Abort
shows (long ∷ fs) = Some Long

-- the bits of a unit that was closed
abbrev pub unit_in : List Finding → List Bool
unit_in [] = []
unit_in (closed u ∷ fs) = u
unit_in (abort ∷ fs) = []
unit_in (long ∷ fs) = []

-- how many bits stand in the area: a closed unit and the seven bits of its flag, or what is gathered
abbrev pub standing : Option Found → ℕ → ℕ
standing None n = n
standing (Some (Closed k)) n = k + 7
standing (Some Abort) n = n
standing (Some Long) n = n

-- what a step gives: the receiver and the finding of its definition, with a closed unit at the front of the area
pub record Stepped (M : ℕ) (st : Receiver × List Finding) (r : Step) (area : List ℕ) : Type 0 where
  pub state : decode r.line area ≡ st.0
  pub found : r.found ≡ shows st.1
  pub unit : take (length (unit_in st.1)) (line_bits area) ≡ unit_in st.1
  pub holds : Holds M r.line (standing r.found r.line.bits) area

-- what reading bits up to a finding gives
pub record FedTo (M : ℕ) (g : Reading) (r : Fed) (area : List ℕ) : Type 0 where
  pub step : Stepped M (g.state, g.found) r.step area
  pub rest : bits_of r.left r.octet ≡ g.rest
  pub few : r.left ≤ 8
