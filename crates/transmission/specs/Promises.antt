-- What is promised of send and fill. The proofs are in proofs/Faults.antt, proofs/Calls.antt, proofs/Line.antt and proofs/Cases.antt.
use Rattle.std.specs.Prelude.{ℕ, ◌≤◌, ◌≡◌, Bool, true, false, List, [], ◌∷◌, ◌++◌, length, drop, replicate}
use Rattle.bits.specs.Format.{basic}
use Rattle.board.specs.Rows.{row_settings}
use Rattle.bits.specs.Octets.{line_bits}
use Rattle.sending.specs.Stream.{stream_line}
use Rattle.board.specs.declared.Settings.{Settings}
use Rattle.board.specs.declared.Link.{Link}
use Rattle.board.specs.Promises.{Sized}
use Rattle.link.specs.Tables.{rising}
use Rattle.link.specs.Calls.{opened_link, open_answer}
use Rattle.output.specs.Refusals.{send_faults, fill_faults, send_number, fill_number}
use Rattle.output.specs.Output.{first_flag, not_sent, send_answer, fill_answer}
use Rattle.transmission.specs.Transmission.{Sending, send, fill, area_of, answer, sent_on, went_out, link_after, octets_sent, Accepted, waiting_bits, fills_first, contents}

-- The faults are asked in rising number, and a refused call changes nothing.
abbrev pub OutputRises : Type 0
OutputRises = (l : Link) (content output : List ℕ) → (rising 0 (send_faults l content output) ≡ true) × (rising 0 (fill_faults l output) ≡ true)

abbrev pub RefusedSend : Type 0
RefusedSend =
    (l : Link) (content output : List ℕ) → (send_number l content output ≡ 0 → ⊥)
    → send_answer l content output ≡ not_sent (send_number l content output) l output

abbrev pub RefusedFill : Type 0
RefusedFill = (l : Link) (output : List ℕ) → (fill_number l output ≡ 0 → ⊥) → fill_answer l output ≡ not_sent (fill_number l output) l output

-- "One send writes at most 335 octets", and so does a fill, of a link whose arrays are as long as their types say;
abbrev pub FewSent : Type 0
FewSent = (l : Link) (s : Sending) → Sized l → (answer l s).count ≤ 335

-- "the rest of the area is unchanged".
abbrev pub RestUnchanged : Type 0
RestUnchanged =
    (l : Link) (s : Sending) → Sized l
    → (length (answer l s).output ≡ length (area_of s)) × (drop (answer l s).count (answer l s).output ≡ drop (answer l s).count (area_of s))

-- What the transmitter puts on the line: over any list of accepted sends and fills from opening, all octets put out, as bits, followed by
-- the bits that wait, are a flag, then for each unit its stuffed bits and a flag; fills before any content are a flag each.
abbrev pub TransmitterLine : Type 0
TransmitterLine =
    (l : Link) (s : Settings) (pool descriptors : List ℕ) (ss : List Sending)
    → let b = (open_answer l s pool descriptors).link in
    (open_answer l s pool descriptors).number ≡ 0 → Accepted b ss
    → (line_bits (octets_sent b ss) ++ waiting_bits (link_after b ss) ≡ stream_line (fills_first ss) (contents ss))
    × (length (waiting_bits (link_after b ss)) ≤ 7)

-- P14: "octet 1F after a flag goes out as 1 1 1 1 1 0 0 0 0".
pub record GoesOut (bits : List Bool) (l : Link) (s : Sending) : Type 0 where
  pub rest : List Bool
  pub is : line_bits (went_out l s) ++ waiting_bits (sent_on l s) ≡ waiting_bits l ++ (first_flag l.transmitter.flagged ++ (bits ++ rest))

abbrev pub P14 : Type 0
P14 =
    (l : Link) (content output : List ℕ) → (send_answer l (0x1f ∷ content) output).number ≡ 0
    → GoesOut (true ∷ true ∷ true ∷ true ∷ true ∷ false ∷ false ∷ false ∷ false ∷ []) l
    (send (0x1f ∷ content) output)

-- An example: what a fill, a send of 1F 02 03 and a fill put out from opening on, computed apart from this by polynomial division.
abbrev pub area : List ℕ
area = replicate basic.output 0

abbrev pub row1 : Settings
row1 = row_settings 1 1 false

abbrev pub three : List Sending
three = fill area ∷ send (0x1f ∷ 2 ∷ 3 ∷ []) area ∷ fill area ∷ []

abbrev pub ThreeSent : Type 0
ThreeSent =
    (octets_sent (opened_link row1) three ≡ 0x7e ∷ 0x1f ∷ 0x04 ∷ 0x06 ∷ 0x6a ∷ 0x11 ∷ 0xfc ∷ 0x3e ∷ 0x08 ∷ 0x00 ∷ 0xb8 ∷ 0xe8 ∷ 0xf8 ∷ [])
    × (waiting_bits (link_after (opened_link row1) three) ≡ true ∷ false ∷ [])
    × ((link_after (opened_link row1) three).supervision.events ≡ 384)
