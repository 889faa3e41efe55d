-- "From line bits to units": the scope's rule for one bit, and the bits of a line.
use Rattle.std.specs.Prelude.{ℕ, ◌+◌, ◌-◌, ◌*◌, min, Bool, true, false, cond, List, [], ◌∷◌, ◌++◌, length, take, eqb, ltb}
use Rattle.bits.specs.Machine.{run, outs}

-- R, the run of ones so far; whether the receiver hunts for a flag; the bits gathered, oldest first
pub record Receiver : Type 0 where
  pub run : ℕ
  pub hunting : Bool
  pub gathered : List Bool

pub data Finding : Type 0 where
  closed : List Bool → Finding
  abort : Finding
  long : Finding

abbrev pub hunts : ℕ → Receiver
hunts r = record { run = r; hunting = true; gathered = [] }

abbrev pub inside : ℕ → List Bool → Receiver
inside r g = record { run = r; hunting = false; gathered = g }

-- "a new link has R = 7 and hunts"
abbrev pub new_receiver : Receiver
new_receiver = hunts 7

-- just after a flag
abbrev pub flagged : Receiver
flagged = inside 0 []

-- "inside a unit, the bit is gathered", R being r then; "When the gathered bits exceed 8M + 7 the unit is long: dropped, hunting."
abbrev pub gather : ℕ → Receiver → ℕ → Bool → Receiver × List Finding
gather M s r b =
    cond s.hunting (hunts r, [])
    (cond (ltb (8 * M + 7) (length s.gathered + 1)) (hunts r, long ∷ []) (inside r (s.gathered ++ (b ∷ [])), []))

-- "An empty unit is nothing."
abbrev pub unit : List Bool → List Finding
unit [] = []
unit (b ∷ bs) = closed (b ∷ bs) ∷ []

-- "A flag closes the unit if one is open and always opens the next. The last seven gathered bits belong to the flag; if only
-- those or fewer were gathered, the unit is empty."
abbrev pub flag : Receiver → Receiver × List Finding
flag s = (flagged, cond s.hunting [] (unit (take (length s.gathered - 7) s.gathered)))

-- "A one: R rises, not above 7. When it goes from 6 to 7 that is an abort: the unit is dropped, the receiver hunts. This also
-- counts while hunting. Otherwise, inside a unit, the bit is gathered."
-- "A zero: after R = 5 it is removed; after R = 6 it ends a flag; else, inside a unit, it is gathered. R becomes 0."
unfoldable pub step_bit : ℕ → Receiver → Bool → Receiver × List Finding
step_bit M s true = cond (eqb s.run 6) (hunts 7, abort ∷ []) (gather M s (min (s.run + 1) 7) true)
step_bit M s false =
    cond (eqb s.run 5) (record { run = 0; hunting = s.hunting; gathered = s.gathered }, [])
    (cond (eqb s.run 6) (flag s) (gather M s 0 false))

abbrev pub next : ℕ → Receiver → Bool → Receiver
next M s b = (step_bit M s b).0

abbrev pub finds : ℕ → Receiver → Bool → List Finding
finds M s b = (step_bit M s b).1

-- the receiver after bits, and what it finds on the way
abbrev pub receiver_after : ℕ → Receiver → List Bool → Receiver
receiver_after M = run (next M)

abbrev pub findings : ℕ → Receiver → List Bool → List Finding
findings M = outs (next M) (finds M)
