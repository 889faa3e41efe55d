-- When the alarm comes: "Take any list of calls on one link, new at its start [..]. Whatever the line brings and whatever stands in the lent memory, the alarm comes at an
-- event exactly when the failure monitor was started, nobody has stopped it since, and this is the first event since its last start that ends some
-- unbroken stretch of the events since then in which the errored ones, less the decay points inside it before its last event, reach the threshold."
-- The proofs are in proofs/Holding.antt, proofs/Alarming.antt and proofs/Demand3.antt.
use Rattle.std.specs.Prelude.{ℕ, suc, ◌+◌, ◌*◌, ◌/◌, ◌^◌, ◌<◌, ◌≡◌, ◌↔◌, Bool, true, List, ◌∷◌, ◌++◌, length, get_or, take}
use Rattle.bits.specs.Octets.{odd}
use Rattle.monitor.specs.Stretch.{First}
use Rattle.monitor.specs.ErrorMonitors.{ErrorMonitor, suerm, aerm, threshold_of, rule_of}
use Rattle.monitor.specs.Promises.{AllErrored}
use Rattle.board.specs.declared.events.Event.{Event}
use Rattle.board.specs.declared.events.Event.TheVariants as bits
use Rattle.board.specs.Events.{event_number}
use Rattle.board.specs.Limits.{record_octets}
use Rattle.records.specs.declared.Happening.{Happening}
use Rattle.input.specs.Receive.{receive_answer}
use Rattle.calls.specs.Call.{Call, answer, link_after}
use Rattle.promises.specs.History.{number_of, brought, Action, books, brings, starts, stops, wipes, nothing, clears, action_of, events, is_event, started, History, past_after}

-- ---- the alarm
-- Thing k of those that a call brings is the event at which the alarm of monitor x comes: x was started, nobody has stopped it since, and of the
-- events since then this is the first that ends a stretch which reaches the threshold.
pub record AlarmAt (x : ErrorMonitor) (h : History) (hs : List Happening) (k : ℕ) : Type 0 where
  pub earlier : List Bool
  pub running : h.since ≡ started x earlier
  pub event : is_event hs k ≡ true
  pub first : First (threshold_of x h.limits) (rule_of x h.limits) (earlier ++ events hs) (suc (length earlier + length (events (take k hs))))

abbrev pub AlarmIn : ErrorMonitor → History → Action → Type 0
AlarmIn x h (books l) = ⊥
AlarmIn x h (brings hs) = (k : ℕ) × AlarmAt x h hs k
AlarmIn x h (starts y) = ⊥
AlarmIn x h stops = ⊥
AlarmIn x h wipes = ⊥
AlarmIn x h nothing = ⊥
AlarmIn x h (clears chosen) = ⊥

-- ---- its event bit
abbrev pub bit_set : Event → ℕ → Bool
bit_set e word = odd (word / 2 ^ event_number e)

abbrev pub bit_of : ErrorMonitor → Event
bit_of suerm = bits.Suer
bit_of aerm = bits.Aerm

-- a wipe, or an accepted clearing of the alarm's bit
abbrev pub Clears : ErrorMonitor → Action → Type 0
Clears x (books l) = ⊥
Clears x (brings hs) = ⊥
Clears x (starts y) = ⊥
Clears x stops = ⊥
Clears x wipes = Unit {0}
Clears x nothing = ⊥
Clears x (clears chosen) = bit_set (bit_of x) chosen ≡ true

-- an alarm of x came in a call of the list, and no call after it does what `Off` says
pub record AlarmCame (x : ErrorMonitor) (Off : Action → Type 0) (cs : List Call) : Type 0 where
  pub before : List Call
  pub call : Call
  pub later : List Call
  pub is : cs ≡ before ++ (call ∷ later)
  pub came : AlarmIn x (past_after before).history (action_of (past_after before).front call)
  pub kept : (a : List Call) (c : Call) (b : List Call) → later ≡ a ++ (c ∷ b) → ¬ Off (action_of (past_after (before ++ (call ∷ a))).front c)

-- "an alarm came and no wipe or accepted clearing of that bit after it"
abbrev pub Stands : ErrorMonitor → List Call → Type 0
Stands x = AlarmCame x (Clears x)

-- an open, a start, a stop or a wipe
abbrev pub Ends : Action → Type 0
Ends (books l) = Unit {0}
Ends (brings hs) = ⊥
Ends (starts y) = Unit {0}
Ends stops = Unit {0}
Ends wipes = Unit {0}
Ends nothing = ⊥
Ends (clears chosen) = ⊥

-- ---- the statement
abbrev pub other : ErrorMonitor → ErrorMonitor
other suerm = aerm
other aerm = suerm

-- monitor y is not the one that was started last and not stopped since
abbrev pub NotStarted : ErrorMonitor → History → Type 0
NotStarted y h = (earlier : List Bool) → ¬ (h.since ≡ started y earlier)

-- After any calls cs from the new closed link:
pub record Demand3 : Type 0 where
  -- a call is answered with the number that the calls' arguments and the lent memory give it;
  pub answered : (cs : List Call) (c : Call) → (answer (link_after cs) c).number ≡ number_of (past_after cs).front c
  -- in the answer to a receive, except while the other monitor is started, octet 13 is one exactly in the record of an event at which the alarm comes;
  pub octet-13 : (x : ErrorMonitor) (cs : List Call) (octets pool descriptors records : List ℕ) (k : ℕ)
      → let p = past_after cs in
      let a = receive_answer (link_after cs) octets pool descriptors records in
      NotStarted (other x) p.history → k < a.count
      → (get_or a.records (record_octets * k + 13) 0 ≡ 1) ↔ AlarmAt x p.history (brought p.front octets pool descriptors) k
  -- and the alarm's event bit is set exactly if an alarm came and no wipe or accepted clearing of that bit after it.
  pub event-bit : (x : ErrorMonitor) (cs : List Call) → (bit_set (bit_of x) (link_after cs).supervision.events ≡ true) ↔ Stands x cs
  -- So after one start, until a stop or another start, with threshold 64 and decay every 256, 65 errored events in a row never pass without the alarm
  -- having come.
  pub never-65 : (cs : List Call) (h : List Bool) (i : ℕ) → (past_after cs).history.since ≡ started suerm h → (past_after cs).history.limits.t ≡ 64
      → (past_after cs).history.limits.d ≡ 256 → AllErrored h i 65 → AlarmCame suerm Ends cs
