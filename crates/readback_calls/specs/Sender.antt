-- What a booking puts on the line by its sends and fills, whatever other calls stand between them. The proofs are in proofs/Sender.antt.
use Rattle.std.specs.Prelude.{ℕ, ◌≤◌, ◌≡◌, Bool, true, false, cond, List, [], ◌∷◌, ◌++◌, eqb, length, take}
use Rattle.bits.specs.Format.{basic}
use Rattle.bits.specs.Machine.{outs}
use Rattle.bits.specs.Octets.{line_bits}
use Rattle.sending.specs.Stream.{stream_line}
use Rattle.board.specs.declared.Settings.{Settings}
use Rattle.board.specs.declared.Link.{Link}
use Rattle.board.specs.Malformed.{in_range}
use Rattle.output.specs.Output.{send_answer, fill_answer}
use Rattle.transmission.specs.Transmission.{Sending, waiting_bits, fills_first, contents}
use Rattle.transmission.specs.Transmission.{send as sending, fill as filling}
use Rattle.calls.specs.Call.{Call, opens, receive, command, clear, send, fill, read, reads_number, hand_back, wipe, answer, link_after}
use Rattle.calls.specs.Lending.{opening}

-- one booking: no call of the list is a wipe
abbrev pub is_wipe : Call → Bool
is_wipe (opens s pool descriptors) = false
is_wipe (receive octets pool descriptors records) = false
is_wipe (command n) = false
is_wipe (clear chosen) = false
is_wipe (send content output) = false
is_wipe (fill output) = false
is_wipe (read pool descriptors slot) = false
is_wipe (reads_number pool descriptors slot) = false
is_wipe (hand_back pool descriptors slot) = false
is_wipe (wipe octets words) = true

unfoldable pub one_booking : List Call → Bool
one_booking [] = true
one_booking (c ∷ cs) = cond (is_wipe c) false (one_booking cs)

-- the octets that a call puts out, and the sends and fills that are answered 0
abbrev pub put_out : Link → Call → List ℕ
put_out l (opens s pool descriptors) = []
put_out l (receive octets pool descriptors records) = []
put_out l (command n) = []
put_out l (clear chosen) = []
put_out l (send content output) = let o = send_answer l content output in take o.count o.output
put_out l (fill output) = let o = fill_answer l output in take o.count o.output
put_out l (read pool descriptors slot) = []
put_out l (reads_number pool descriptors slot) = []
put_out l (hand_back pool descriptors slot) = []
put_out l (wipe octets words) = []

abbrev pub accepted_in : Link → Call → List Sending
accepted_in l (opens s pool descriptors) = []
accepted_in l (receive octets pool descriptors records) = []
accepted_in l (command n) = []
accepted_in l (clear chosen) = []
accepted_in l (send content output) = cond (eqb (send_answer l content output).number 0) (sending content output ∷ []) []
accepted_in l (fill output) = cond (eqb (fill_answer l output).number 0) (filling output ∷ []) []
accepted_in l (read pool descriptors slot) = []
accepted_in l (reads_number pool descriptors slot) = []
accepted_in l (hand_back pool descriptors slot) = []
accepted_in l (wipe octets words) = []

-- the same of a booking that makes these calls from its opening on: its line, and what it sent
unfoldable pub line_of : Settings → List Call → List ℕ
line_of s cs = outs (λ l c. (answer l c).link) put_out (link_after (opening s ∷ [])) cs

unfoldable pub sendings_of : Settings → List Call → List Sending
sendings_of s cs = outs (λ l c. (answer l c).link) accepted_in (link_after (opening s ∷ [])) cs

-- "What the transmitter puts on the line" over any calls of one booking, refused ones included: all octets put out, as bits, then the bits that wait, are a
-- flag, then for each unit its stuffed bits and a flag; fills before any content are a flag each.
abbrev pub LineOfCalls : Type 0
LineOfCalls =
    (s : Settings) (cs : List Call) → in_range basic s ≡ true → one_booking cs ≡ true
    → let w = waiting_bits (link_after (opening s ∷ cs)) in
    (line_bits (line_of s cs) ++ w ≡ stream_line (fills_first (sendings_of s cs)) (contents (sendings_of s cs))) × (length w ≤ 7)
