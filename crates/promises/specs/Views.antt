-- Sends and fills, and receives, of the theorems on transmission and read-back are calls of the one type. The proofs are in proofs/Views.antt.
use Rattle.std.specs.Prelude.{◌≡◌, ℕ}
use Rattle.board.specs.declared.Link.{Link}
use Rattle.transmission.specs.Transmission.{Sending, sent_on}
use Rattle.transmission.specs.Transmission.{send as sending, fill as filling, answer as sent}
use Rattle.link.specs.Held.{Held, handed_back}
use Rattle.readback.specs.Feeding.{Feed, fed}
use Rattle.readback.specs.Feeding.{answer as took}
use Rattle.calls.specs.Call.{Call, receive, send, fill, hand_back, answer}

abbrev pub sending_call : Sending → Call
sending_call (sending content output) = send content output
sending_call (filling output) = fill output

abbrev pub feed_call : Held → Feed → Call
feed_call h f = receive f.octets h.pool h.descriptors f.records

abbrev pub SendsAreCalls : Type 0
SendsAreCalls = (l : Link) (s : Sending) → ((answer l (sending_call s)).link ≡ sent_on l s) × ((answer l (sending_call s)).number ≡ (sent l s).number)

abbrev pub FeedsAreCalls : Type 0
FeedsAreCalls = (h : Held) (f : Feed) → ((answer h.link (feed_call h f)).link ≡ (fed h f).link) × ((answer h.link (feed_call h f)).number ≡ (took h f).number)

abbrev pub HandBacksAreCalls : Type 0
HandBacksAreCalls = (h : Held) (slot : ℕ) → (answer h.link (hand_back h.pool h.descriptors slot)).link ≡ (handed_back h slot).link
