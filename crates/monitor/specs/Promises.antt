-- What is promised of the error monitors. The proofs are in proofs/Reflected.antt, proofs/Alarms.antt, proofs/SixtyFive.antt and
-- proofs/Cases.antt. Everywhere h is the events since a start, oldest first, each errored or not.
use Rattle.std.specs.Prelude.{ℕ, suc, ◌+◌, ◌≤◌, ◌<◌, ◌≡◌, ◌↔◌, Bool, true, false, List, [], ◌∷◌, ◌++◌, length, get_or, replicate, Option, Some, None}
use Rattle.monitor.specs.declared.Mode.{Mode}
use Rattle.monitor.specs.declared.Mode.TheVariants.{Failure, Alignment}
use Rattle.monitor.specs.declared.Alarm.{Alarm}
use Rattle.monitor.specs.declared.Alarm.TheVariants.{Suer, Aerm}
use Rattle.monitor.specs.declared.Monitor.{Monitor}
use Rattle.monitor.specs.declared.Limits.{Limits}
use Rattle.monitor.specs.Monitor.{started}
use Rattle.monitor.specs.History.{OffOrIdle, monitor_after, alarms}
use Rattle.monitor.specs.Stretch.{Rule, errored, failures, alignments, Reaches, First, tested}

-- ---- The law of the reflected count
-- For any rule, the count is tested at T or more at an event exactly if some stretch that ends there reaches T.
abbrev pub Law : Type 0
Law = (T : ℕ) (r : Rule) (h : List Bool) (n : ℕ) → (T ≤ tested r h (suc n)) ↔ Reaches T r h (suc n)

-- Where a stretch reaches T, there is a first event that ends such a stretch, and it is not later.
abbrev pub FirstExists : Type 0
FirstExists = (T : ℕ) (r : Rule) (h : List Bool) (n : ℕ) → Reaches T r h n → (m : ℕ) × (m ≤ n) × First T r h m

-- ---- When the alarm comes
-- the alarm at event n + 1 since a start in this mode
abbrev pub alarm_at : Limits → Mode → List Bool → ℕ → Option Alarm
alarm_at l mode h n = get_or (alarms l (started mode) h) n None

-- SUER comes at an event exactly if it is the first since the start that ends a stretch which reaches T, with each D-th a decay point.
abbrev pub SuerExactly : Type 0
SuerExactly =
    (l : Limits) (h : List Bool) (n : ℕ)
    → (alarm_at l Failure h n ≡ Some Suer) ↔ ((n < length h) × First l.t (failures l.d) h (suc n))

-- AERM comes likewise, with A and no decay points.
abbrev pub AermExactly : Type 0
AermExactly =
    (l : Limits) (h : List Bool) (n : ℕ)
    → (alarm_at l Alignment h n ≡ Some Aerm) ↔ ((n < length h) × First l.a alignments h (suc n))

-- The failure monitor never raises AERM, nor the alignment monitor SUER.
abbrev pub FailureNeverAerm : Type 0
FailureNeverAerm = (l : Limits) (h : List Bool) (n : ℕ) → ¬ (alarm_at l Failure h n ≡ Some Aerm)

abbrev pub AlignmentNeverSuer : Type 0
AlignmentNeverSuer = (l : Limits) (h : List Bool) (n : ℕ) → ¬ (alarm_at l Alignment h n ≡ Some Suer)

-- A monitor that is off or idle stays as it is and raises no alarm, whatever events come.
abbrev pub OffOrIdleStays : Type 0
OffOrIdleStays =
    (l : Limits) (m : Monitor) (h : List Bool) → OffOrIdle m
    → (monitor_after l m h ≡ m) × (alarms l m h ≡ replicate (length h) None)

-- ---- Sixty-five errored events in a row
abbrev pub limits_of : ℕ → ℕ → ℕ → Limits
limits_of T D A = record { t = T; d = D; a = A }

-- the k events from event i + 1 on are all errored
abbrev pub AllErrored : List Bool → ℕ → ℕ → Type 0
AllErrored h i k = (j : ℕ) → i < j → j ≤ i + k → errored h j ≡ true

-- With threshold 64 and decay every 256: if events i + 1 to i + 65 are errored, the event of the alarm is not after them,
abbrev pub SixtyFive : Type 0
SixtyFive = (h : List Bool) (i : ℕ) → AllErrored h i 65 → (m : ℕ) × (m ≤ i + 65) × First 64 (failures 256) h m

-- and the failure monitor has raised SUER by then, whatever A is.
abbrev pub SixtyFiveAlarm : Type 0
SixtyFiveAlarm =
    (A : ℕ) (h : List Bool) (i : ℕ) → AllErrored h i 65
    → (n : ℕ) × (n < i + 65) × (alarm_at (limits_of 64 256 A) Failure h n ≡ Some Suer)

-- Sixty-four do not suffice: with a decay point among them they pass without an alarm.
abbrev pub SixtyFourPass : Type 0
SixtyFourPass =
    (A : ℕ) → alarms (limits_of 64 256 A) (started Failure) (replicate 224 false ++ replicate 64 true) ≡ replicate 288 None

-- ---- Proved cases
-- "P8 row 1, all errored: alarm at event 64", and at none before. Row 1 has T = 64 and D = 256.
abbrev pub P8 : Type 0
P8 = (A : ℕ) → alarms (limits_of 64 256 A) (started Failure) (replicate 64 true) ≡ replicate 63 None ++ (Some Suer ∷ [])

-- "P9 255 good, then errored: alarm at 320, not 319."
abbrev pub P9 : Type 0
P9 = (A : ℕ) → alarms (limits_of 64 256 A) (started Failure) (replicate 255 false ++ replicate 65 true) ≡ replicate 319 None ++ (Some Suer ∷ [])

-- "P10 T = 2, D = 1: never."
abbrev pub P10 : Type 0
P10 = (A : ℕ) (h : List Bool) (n : ℕ) → alarm_at (limits_of 2 1 A) Failure h n ≡ None

-- "P11 T = 1: first errored event", and no other, however many good events come before it and whatever comes after.
abbrev pub P11 : Type 0
P11 =
    (D A k : ℕ) (rest : List Bool)
    → alarms (limits_of 1 D A) (started Failure) (replicate k false ++ (true ∷ rest))
    ≡ replicate k None ++ (Some Suer ∷ replicate (length rest) None)
