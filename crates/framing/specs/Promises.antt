-- What is promised of delimitation. The proofs are in proofs/Bound.antt, proofs/Readings.antt and proofs/Encoding.antt.
use Rattle.std.specs.Prelude.{◌≡◌, Bool, true, List, ◌++◌, ℕ, ◌+◌, ◌*◌, ◌≤◌, length}
use Rattle.bits.specs.Format.{basic, most_longest}
use Rattle.bits.specs.Octets.{bits_of}
use Rattle.framing.specs.declared.Line.{Line}
use Rattle.framing.specs.Delimitation.{Receiver, receiver_after, findings}
use Rattle.framing.specs.InnerReading.{reading, IsWellFormed}
use Rattle.framing.specs.Representation.{decode, encode, encode_area}

-- With M at least 7 one line octet brings at most two findings, whatever the receiver's state.
abbrev pub TwoFindings : Type 0
TwoFindings = (M : ℕ) (s : Receiver) (octet : ℕ) → 7 ≤ M → length (findings M s (bits_of 8 octet)) ≤ 2

-- Reading up to a finding, again and again, gives the receiver and the findings of reading all at once.
abbrev pub ReadingAfter : Type 0
ReadingAfter = (M : ℕ) (bs : List Bool) (s : Receiver) → receiver_after M (reading M s bs).state (reading M s bs).rest ≡ receiver_after M s bs

abbrev pub ReadingFindings : Type 0
ReadingFindings =
    (M : ℕ) (bs : List Bool) (s : Receiver)
    → (reading M s bs).found ++ findings M (reading M s bs).state (reading M s bs).rest ≡ findings M s bs

-- Well-formed numbers and area are the encoding of the receiver that they hold,
abbrev pub EncodesBack : Type 0
EncodesBack =
    (M : ℕ) (l : Line) (area : List ℕ) → M ≤ most_longest basic → IsWellFormed M l area
    → (l ≡ encode (decode l area)) × (area ≡ encode_area (decode l area))

-- and the encoding of a receiver in range is well-formed and holds that receiver.
abbrev pub DecodesBack : Type 0
DecodesBack =
    (M : ℕ) (s : Receiver) → M ≤ most_longest basic → s.run ≤ 7 → length s.gathered ≤ 8 * M + 7 → (s.hunting ≡ true → length s.gathered ≡ 0)
    → IsWellFormed M (encode s) (encode_area s) × (decode (encode s) (encode_area s) ≡ s)
