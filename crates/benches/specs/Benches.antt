-- "With the overrun switch off both benches, otherwise set alike, show the same error counts and the same alarms for the same line and commands." The
-- proofs are in proofs/Benches.antt.
use Rattle.std.specs.Prelude.{ℕ, zero, suc, ◌≡◌, true, false, cond, List, [], ◌∷◌, ◌++◌, ltb, get_or, take, drop}
use Rattle.bits.specs.Format.{basic}
use Rattle.bits.specs.Machine.{outs}
use Rattle.board.specs.declared.Settings.{Settings}
use Rattle.board.specs.declared.Link.{Link}
use Rattle.board.specs.Limits.{record_octets}
use Rattle.board.specs.Link.{new_link}
use Rattle.board.specs.Malformed.{in_range}
use Rattle.input.specs.Receive.{receive_answer}
use Rattle.input.specs.Promises.{written}
use Rattle.calls.specs.Call.{Call, opens, receive, command, clear, send, fill, read, reads_number, hand_back, wipe, answer, link_after}
use Rattle.calls.specs.Lending.{opening, Lent}
use Rattle.promises.specs.History.{events}
use Rattle.bookings.specs.Booking.{booking_after}

-- ---- the two bookings
-- settings that differ only in the filter switch, the mask and K, with orn off
pub record SetAlike (s s' : Settings) : Type 0 where
  pub m : s.m ≡ s'.m
  pub n : s.n ≡ s'.n
  pub t : s.t ≡ s'.t
  pub d : s.d ≡ s'.d
  pub a : s.a ≡ s'.a
  pub itu : s.itu ≡ s'.itu
  pub orn-off : s.orn ≡ false
  pub orn-off' : s'.orn ≡ false

-- ---- the same line and commands
-- a call that each bench makes on its own: neither line nor command, and no wipe, which ends the booking
abbrev pub Own : Call → Type 0
Own (opens s pool descriptors) = Unit {0}
Own (receive octets pool descriptors records) = ⊥
Own (command n) = ⊥
Own (clear chosen) = Unit {0}
Own (send content output) = Unit {0}
Own (fill output) = Unit {0}
Own (read pool descriptors slot) = Unit {0}
Own (reads_number pool descriptors slot) = Unit {0}
Own (hand_back pool descriptors slot) = Unit {0}
Own (wipe octets words) = ⊥

-- calls of two benches with k and k' slots that have the same line octets in the same receives, and the same commands, in the same order; between them each
-- bench makes any calls of its own: slots may be handed back, units read, sent and filled differently on the two
pub data SameLine (k k' : ℕ) : List Call → List Call → Type 0 where
  none : SameLine k k' [] []
  line : {cs ds : List Call} (octets pool descriptors records pool' descriptors' records' : List ℕ) → Lent k octets pool descriptors records
      → Lent k' octets pool' descriptors' records' → SameLine k k' cs ds
      → SameLine k k' (receive octets pool descriptors records ∷ cs) (receive octets pool' descriptors' records' ∷ ds)
  told : {cs ds : List Call} (n : ℕ) → SameLine k k' cs ds → SameLine k k' (command n ∷ cs) (command n ∷ ds)
  first : {cs ds : List Call} (c : Call) → Own c → SameLine k k' cs ds → SameLine k k' (c ∷ cs) ds
  second : {cs ds : List Call} (c : Call) → Own c → SameLine k k' cs ds → SameLine k k' cs (c ∷ ds)

-- ---- what a bench shows
-- A record as both benches must have it: kinds 3 to 8 as they are, and a good unit, of kind 0, 1 or 2 by its fate, as one; octet 1, which tells of the slot, left
-- out; octets 2 to 15 as they are.
abbrev pub kind_seen : ℕ → ℕ
kind_seen kind = cond (ltb kind 3) 0 kind

unfoldable pub records_seen : ℕ → List ℕ → List (List ℕ)
records_seen zero records = []
records_seen (suc n) records = (kind_seen (get_or records 0 0) ∷ take 14 (drop 2 records)) ∷ records_seen n (drop record_octets records)

-- those that a call writes
abbrev pub seen_in : Link → Call → List (List ℕ)
seen_in l (opens s pool descriptors) = []
seen_in l (receive octets pool descriptors records) = let o = receive_answer l octets pool descriptors records in records_seen o.count (written o)
seen_in l (command n) = []
seen_in l (clear chosen) = []
seen_in l (send content output) = []
seen_in l (fill output) = []
seen_in l (read pool descriptors slot) = []
seen_in l (reads_number pool descriptors slot) = []
seen_in l (hand_back pool descriptors slot) = []
seen_in l (wipe octets words) = []

-- and all calls
unfoldable pub seen : List Call → List (List ℕ)
seen cs = outs (λ l c. (answer l c).link) seen_in new_link cs

-- all line octets of the receives of a list of calls
unfoldable pub line_of : List Call → List ℕ
line_of [] = []
line_of (opens s pool descriptors ∷ cs) = line_of cs
line_of (receive octets pool descriptors records ∷ cs) = octets ++ line_of cs
line_of (command n ∷ cs) = line_of cs
line_of (clear chosen ∷ cs) = line_of cs
line_of (send content output ∷ cs) = line_of cs
line_of (fill output ∷ cs) = line_of cs
line_of (read pool descriptors slot ∷ cs) = line_of cs
line_of (reads_number pool descriptors slot ∷ cs) = line_of cs
line_of (hand_back pool descriptors slot ∷ cs) = line_of cs
line_of (wipe octets words ∷ cs) = line_of cs

-- ---- the statement: after any such calls, and so after each of them
pub record ShowTheSame (cs ds : List Call) : Type 0 where
  -- every line octet was taken, by both;
  pub taken : (booking_after cs).octets ≡ line_of cs
  pub taken' : (booking_after ds).octets ≡ line_of ds
  -- the same good count, the same events, good and errored, in order, and the same state of the monitor;
  pub good : (link_after cs).units.counts.good ≡ (link_after ds).units.counts.good
  pub same-events : events (booking_after cs).happened ≡ events (booking_after ds).happened
  pub monitor : (link_after cs).supervision.monitor ≡ (link_after ds).supervision.monitor
  -- the same records, but for octet 1 and the fate of a good unit; so the same alarms, which octet 13 tells.
  pub records : seen cs ≡ seen ds

abbrev pub BenchesAlike : Type 0
BenchesAlike =
    (s s' : Settings) (cs ds : List Call) → in_range basic s ≡ true → in_range basic s' ≡ true → SetAlike s s' → SameLine s.k s'.k cs ds
    → ShowTheSame (opening s ∷ cs) (opening s' ∷ ds)
