-- What is promised of happenings and their records. The proofs are in proofs/Supervising.antt and proofs/Range.antt.
use Rattle.std.specs.Prelude.{ℕ, ◌+◌, ◌*◌, ◌<◌, ◌≡◌, Bool, false, List, [], ◌∷◌, ◌++◌, length, get_or, take, drop}
use Rattle.std.proofs.lemmas.List.Edits.{sets}
use Rattle.board.specs.InnerRanges.{SettingsInRange, MonitorInRange}
use Rattle.board.specs.declared.Settings.{Settings}
use Rattle.board.specs.Limits.{record_octets, monitor_limits}
use Rattle.bits.specs.Octets.{worth}
use Rattle.monitor.specs.declared.Monitor.{Monitor}
use Rattle.monitor.specs.declared.Limits.{Limits}
use Rattle.records.specs.declared.Happening.{Happening}
use Rattle.board.specs.declared.Supervision.{Supervision}
use Rattle.records.specs.Happening.{noted}
use Rattle.records.specs.Record.{low-high, record_of, supervised, recorded, supervision_after, records_of}

-- ---- One record
-- each happening shows five octets, as its type in the code has it
pub data FirstFive : List Happening → Type 0 where
  none : FirstFive []
  more : {h : Happening} {hs : List Happening} → length h.first ≡ 5 → FirstFive hs → FirstFive (h ∷ hs)

-- "Sixteen octets each"
abbrev pub RecordSize : Type 0
RecordSize = (h : Happening) (count : ℕ) (raised : Bool) → length h.first ≡ 5 → length (record_of h count raised) ≡ record_octets

-- "13 one if this event raised SUER or AERM"
abbrev pub OctetThirteen : Type 0
OctetThirteen =
    (h : Happening) (count : ℕ) (raised : Bool) → length h.first ≡ 5 → get_or (record_of h count raised) 13 0 ≡ worth raised

-- "4-5 monitor count after it"
abbrev pub CountAfter : Type 0
CountAfter =
    (l : Limits) (w : Supervision) (h : Happening) → take 2 (drop 4 (recorded l w h)) ≡ low-high (supervised l w h).monitor.count

-- A happening that is no event leaves the monitor as it is and raises nothing.
abbrev pub NoEvent : Type 0
NoEvent =
    (l : Limits) (w : Supervision) (h : Happening) → h.event ≡ false
    → ((supervised l w h).monitor ≡ w.monitor) × ((noted l w h).raised ≡ false)

-- ---- Records in a row
-- Happenings that come in two parts are watched and recorded as one list.
abbrev pub SupervisionAppend : Type 0
SupervisionAppend = (l : Limits) (w : Supervision) (xs ys : List Happening) → supervision_after l w (xs ++ ys) ≡ supervision_after l (supervision_after l w xs) ys

abbrev pub RecordsAppend : Type 0
RecordsAppend =
    (l : Limits) (w : Supervision) (xs ys : List Happening)
    → records_of l w (xs ++ ys) ≡ records_of l w xs ++ records_of l (supervision_after l w xs) ys

abbrev pub RecordsLength : Type 0
RecordsLength = (l : Limits) (w : Supervision) (hs : List Happening) → FirstFive hs → length (records_of l w hs) ≡ record_octets * length hs

-- One record written at its place, then those after it, is all of them written there.
abbrev pub RecordByRecord : Type 0
RecordByRecord =
    (l : Limits) (w : Supervision) (h : Happening) (hs : List Happening) (out : List ℕ) (n : ℕ) → length h.first ≡ 5
    → sets (sets out (record_octets * n) (recorded l w h)) (record_octets * (n + 1)) (records_of l (supervised l w h) hs) ≡ sets out (record_octets * n) (records_of l w (h ∷ hs))

-- ---- Numbers in range
-- A happening leaves a monitor in range in range,
abbrev pub StaysInRange : Type 0
StaysInRange =
    (s : Settings) (w : Supervision) (h : Happening) → SettingsInRange s → MonitorInRange s w.monitor
    → MonitorInRange s (supervised (monitor_limits s) w h).monitor

-- and a monitor in range is one that can take a happening.
abbrev pub RangeTakes : Type 0
RangeTakes = (s : Settings) (m : Monitor) → SettingsInRange s → MonitorInRange s m → (m.count < 65535) × (m.number < 65535)
