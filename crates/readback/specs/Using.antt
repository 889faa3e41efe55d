-- A link in use, and calls that it does not refuse. The proofs are in proofs/Using.antt.
use Rattle.std.specs.Prelude.{ℕ, ◌*◌, ◌≤◌, ◌<◌, ◌≡◌, true, false, List, [], ◌∷◌, ◌++◌, length}
use Rattle.bits.specs.Format.{basic, most_longest, least_content, most_content}
use Rattle.bits.specs.Octets.{Octets}
use Rattle.board.specs.Limits.{record_room, most_line}
use Rattle.board.specs.declared.Settings.{Settings}
use Rattle.board.specs.declared.Link.{Link}
use Rattle.board.specs.Malformed.{malformed}
use Rattle.board.specs.Promises.{Sized}
use Rattle.link.specs.Refusals.{fits_memory, read_number}
use Rattle.link.specs.Calls.{open_answer, read_part}
use Rattle.input.specs.Receive.{receive_answer}
use Rattle.input.specs.Promises.{written}
use Rattle.transmission.specs.Transmission.{Sending, send, fill, link_after, Accepted}
use Rattle.link.specs.Held.{Held}
use Rattle.readback.specs.Feeding.{Feed, held_after, records_fed, octets_fed, Answered}
use Rattle.readback.specs.Reading.{Stands}
use Rattle.readback.specs.Streams.{just_opened}

-- open, not malformed, and lent the memory of its slots
pub record InUse (h : Held) : Type 0 where
  pub opened : h.link.opened ≡ true
  pub formed : malformed h.link ≡ false
  pub fits : fits_memory basic h.link.settings.k h.pool h.descriptors ≡ true

-- at most 1,024 line octets, and 48 octets of record area for each
pub data AllSized : List Feed → Type 0 where
  none : AllSized []
  more : {f : Feed} {fs : List Feed} → length f.octets ≤ most_line → record_room * length f.octets ≤ length f.records → AllSized fs → AllSized (f ∷ fs)

-- A booking just opened is in use.
abbrev pub OpenInUse : Type 0
OpenInUse =
    (l : Link) (s : Settings) (pool descriptors : List ℕ) → (open_answer l s pool descriptors).number ≡ 0 → InUse (just_opened l s pool descriptors)

-- A link in use answers 0 to every receive of such sizes, and stays in use.
abbrev pub StaysInUse : Type 0
StaysInUse = (h : Held) (fs : List Feed) → InUse h → AllSized fs → Answered h fs × InUse (held_after h fs)

-- A link in use, with arrays as long and a gathering area of octets as their types say: however a line is cut into such calls, they are all
-- answered 0, and leave the same link, pool and descriptors and the same records in order.
abbrev pub AnyCutting : Type 0
AnyCutting =
    (h : Held) (fs gs : List Feed) → InUse h → Sized h.link → Octets h.link.line.area
    → AllSized fs → AllSized gs → octets_fed fs ≡ octets_fed gs
    → Answered h fs × Answered h gs × (held_after h fs ≡ held_after h gs) × (records_fed h fs ≡ records_fed h gs)

-- A line received in one call, or a first part of it and then the rest with what the first call left: all three calls are answered 0, the link,
-- pool and descriptors are the same after it, and the records are the same in order.
abbrev pub LineCut : Type 0
LineCut =
    (h : Held) (xs ys records records₁ records₂ : List ℕ) → InUse h → length (xs ++ ys) ≤ most_line
    → record_room * length (xs ++ ys) ≤ length records → record_room * length xs ≤ length records₁ → record_room * length ys ≤ length records₂
    → let one = receive_answer h.link (xs ++ ys) h.pool h.descriptors records in
    let first = receive_answer h.link xs h.pool h.descriptors records₁ in
    let second = receive_answer first.link ys first.pool first.descriptors records₂ in
    (one.number ≡ 0)
    × (first.number ≡ 0)
    × (second.number ≡ 0)
    × (one.link ≡ second.link)
    × (one.pool ≡ second.pool)
    × (one.descriptors ≡ second.descriptors)
    × (written one ≡ written first ++ written second)

-- What stands in a slot of a link in use is what read gives.
abbrev pub StandsRead : Type 0
StandsRead =
    (h : Held) (slot : ℕ) (unit : List ℕ) → InUse h → slot < h.link.settings.k → length unit ≤ most_longest basic → Stands h slot unit
    → (read_number h.link h.pool h.descriptors slot ≡ 0) × (read_part h.link h.pool h.descriptors slot ≡ unit)

-- content of 3 to 276 octets, and an output area of 336 octets
abbrev pub Fitting : Sending → Type 0
Fitting (send content output) = (least_content basic ≤ length content) × (length content ≤ most_content basic) × (basic.output ≤ length output)
Fitting (fill output) = basic.output ≤ length output

pub data AllFitting : List Sending → Type 0 where
  none : AllFitting []
  more : {s : Sending} {ss : List Sending} → Fitting s → AllFitting ss → AllFitting (s ∷ ss)

-- A link in use, its last content's two octets being two as their type says, accepts every such send and fill, and stays in use.
abbrev pub sent_held : Held → List Sending → Held
sent_held h ss = record { link = link_after h.link ss; pool = h.pool; descriptors = h.descriptors }

abbrev pub SendsInUse : Type 0
SendsInUse =
    (h : Held) (ss : List Sending) → length h.link.transmitter.last ≡ 2 → InUse h → AllFitting ss
    → Accepted h.link ss × InUse (sent_held h ss)
