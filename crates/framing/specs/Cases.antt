-- Proved cases of the scope that delimitation decides, with M = 278.
use Rattle.std.specs.Prelude.{ℕ, ◌≡◌, Bool, true, false, List, [], ◌∷◌, ◌++◌, replicate}
use Rattle.bits.specs.Octets.{bits_of, line_bits}
use Rattle.bits.specs.Format.{basic, most_longest}
use Rattle.framing.specs.declared.Verdict.TheVariants.{Short, CheckWrong}
use Rattle.framing.specs.Delimitation.{Receiver, Finding, closed, abort, long, new_receiver, flagged, receiver_after, findings}
use Rattle.framing.specs.Verdict.{verdict_of}

-- what a new receiver finds in bits, and where it is then
abbrev pub found_in : List Bool → List Finding
found_in = findings (most_longest basic) new_receiver

abbrev pub now_receiver : List Bool → Receiver
now_receiver = receiver_after (most_longest basic) new_receiver

-- so many zero bits between two flags
abbrev pub zeros : ℕ → List Bool
zeros n = replicate n false

abbrev pub between_flags : ℕ → List Bool
between_flags n = bits_of 8 0x7e ++ (zeros n ++ bits_of 8 0x7e)

-- "P3 fresh link, 3F: no flag": the receiver hunts on.
abbrev pub P3 : Type 0
P3 = (found_in (line_bits (0x3f ∷ [])) ≡ []) × ((now_receiver (line_bits (0x3f ∷ []))).hunting ≡ true)

-- "P4 7E 7E: no record": nothing is found.
abbrev pub P4 : Type 0
P4 = found_in (line_bits (0x7e ∷ 0x7e ∷ [])) ≡ []

-- "P5 7E FF: one abort."
abbrev pub P5 : Type 0
P5 = found_in (line_bits (0x7e ∷ 0xff ∷ [])) ≡ abort ∷ []

-- "P6 39 zero bits between flags are short, 40 aren't."
abbrev pub P6 : Type 0
P6 =
    (found_in (between_flags 39) ≡ closed (zeros 39) ∷ []) × (verdict_of basic (zeros 39) ≡ Short)
    × (found_in (between_flags 40) ≡ closed (zeros 40) ∷ []) × (verdict_of basic (zeros 40) ≡ CheckWrong)

-- "P7 M = 278: 2,224 bits close, 2,225 are long": and the flag after them opens the next unit.
abbrev pub P7Closes : Type 0
P7Closes = found_in (between_flags 2224) ≡ closed (zeros 2224) ∷ []

abbrev pub P7Long : Type 0
P7Long = (found_in (between_flags 2225) ≡ long ∷ []) × (now_receiver (between_flags 2225) ≡ flagged)
