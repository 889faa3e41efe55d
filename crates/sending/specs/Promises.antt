-- What is promised of sending. The proofs are in proofs/Puttings.antt, proofs/Rows.antt, proofs/Stuffs.antt, proofs/ReadBack.antt and proofs/Sent.antt.
use Rattle.std.specs.Prelude.{◌≡◌, Bool, true, false, List, [], ◌∷◌, ◌++◌, ℕ, ◌+◌, ◌*◌, ◌/◌, ◌≤◌, ◌<◌, length, get_or}
use Rattle.bits.specs.Octets.{bits_of, line_bits, whole_octets, Octets}
use Rattle.bits.specs.Format.{basic, Format, least_content, most_content}
use Rattle.fcs.specs.Check.{check_octets}
use Rattle.framing.specs.declared.Verdict.TheVariants.{Good}
use Rattle.framing.specs.Delimitation.{Receiver, closed, flagged, receiver_after, findings}
use Rattle.framing.specs.Verdict.{verdict_of}
use Rattle.sending.specs.declared.Tx.{Tx}
use Rattle.sending.specs.Stuffing.{stuffed, zeros_in, on_line, unit_bits, unit_line}
use Rattle.sending.specs.Rows.{row_of, stuffing_table}
use Rattle.sending.specs.Packing.{waiting, octets_out, still_waiting}

-- What goes out and what waits then are together the bits that waited, followed by the new ones; at most seven bits wait.
abbrev pub NothingLost : Type 0
NothingLost =
    (t : Tx) (bs : List Bool)
    → (line_bits (octets_out t bs) ++ still_waiting t bs ≡ waiting t ++ bs) × (length (still_waiting t bs) ≤ 7)

-- Each row of the table is the stuffing rule for its count of ones in a row and its octet.
abbrev pub EachRow : Type 0
EachRow = (ones octet : ℕ) → ones ≤ 4 → octet < 256 → get_or stuffing_table (ones * 256 + octet) 0 ≡ row_of ones octet

-- The zeros put in are at most a fifth of the unit's bits.
abbrev pub ZerosFifth : Type 0
ZerosFifth = (bits : List Bool) → length (zeros_in 0 bits) ≤ length bits / 5

-- At most 335 octets come out of one unit of up to 276 octets of content, behind up to seven waiting bits or behind a first flag.
abbrev pub FewOctets : Type 0
FewOctets =
    (before : List Bool) (content : List ℕ) → length before ≤ 8 → length content ≤ most_content basic
    → length (whole_octets (before ++ unit_line content)) ≤ 335

-- A receiver that has just read a flag, fed the stuffed bits of any unit of at least one bit that it allows and then a flag, finds
-- exactly that unit and has again just read a flag.
abbrev pub ReadBack : Type 0
ReadBack =
    (M : ℕ) (u : List Bool) → 0 < length u → length u ≤ 8 * M
    → (receiver_after M flagged (on_line u) ≡ flagged) × (findings M flagged (on_line u) ≡ closed u ∷ [])

-- The same of content and its check octets through the sender, whatever waits before them: a receiver that has just read a flag once
-- it has read what waits, and then reads the octets that go out and the bits that wait, finds exactly this unit more.
abbrev pub ReadBackSent : Type 0
ReadBackSent =
    (M : ℕ) (t : Tx) (content : List ℕ) (s : Receiver) → length content + 2 ≤ M → receiver_after M s (waiting t) ≡ flagged
    → (receiver_after M s (line_bits (octets_out t (unit_line content)) ++ still_waiting t (unit_line content)) ≡ flagged)
    × (findings M s (line_bits (octets_out t (unit_line content)) ++ still_waiting t (unit_line content))
    ≡ findings M s (waiting t) ++ (closed (unit_bits content) ∷ []))

-- That unit is good, from a header of content on, and its octets are the content and the check octets.
abbrev pub SentGood : Type 0
SentGood = (F : Format) (content : List ℕ) → least_content F ≤ length content → verdict_of F (unit_bits content) ≡ Good

abbrev pub SentOctets : Type 0
SentOctets = (content : List ℕ) → Octets content → whole_octets (unit_bits content) ≡ content ++ check_octets content

-- "P14 octet 1F after a flag goes out as 1 1 1 1 1 0 0 0 0."
abbrev pub P14 : Type 0
P14 = stuffed 0 (bits_of 8 0x1f) ≡ true ∷ true ∷ true ∷ true ∷ true ∷ false ∷ false ∷ false ∷ false ∷ []

-- "even where the flag follows": five ones at a unit's end have their zero too.
abbrev pub FifthAtEnd : Type 0
FifthAtEnd =
    on_line (true ∷ true ∷ true ∷ true ∷ true ∷ [])
    ≡ true ∷ true ∷ true ∷ true ∷ true ∷ false ∷ false ∷ true ∷ true ∷ true ∷ true ∷ true ∷ true ∷ false ∷ []
