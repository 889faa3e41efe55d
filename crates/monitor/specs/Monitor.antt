-- The error monitors, as the scope's paragraph "Monitor" has them.
use Rattle.std.specs.Prelude.{ℕ, ◌+◌, ◌-◌, Bool, cond, eqb, leb, Option, Some, None}
use Rattle.bits.specs.Octets.{worth}
use Rattle.monitor.specs.declared.Mode.{Mode}
use Rattle.monitor.specs.declared.Mode.TheVariants.{Off, Failure, Alignment, Idle}
use Rattle.monitor.specs.declared.Alarm.{Alarm}
use Rattle.monitor.specs.declared.Alarm.TheVariants.{Suer, Aerm}
use Rattle.monitor.specs.declared.Monitor.{Monitor}
use Rattle.monitor.specs.declared.Limits.{Limits}
use Rattle.monitor.specs.declared.Stepped.{Stepped}

abbrev pub monitor_of : Mode → ℕ → ℕ → Monitor
monitor_of mode count number = record { mode = mode; count = count; number = number }

-- "Starting sets both counts to zero."
abbrev pub started : Mode → Monitor
started mode = monitor_of mode 0 0

-- command 1: "monitor off (its counts stay)"
abbrev pub stopped : Monitor → Monitor
stopped m = monitor_of Off m.count m.number

abbrev pub gives : Monitor → Option Alarm → Stepped
gives m a = record { monitor = m; alarm = a }

-- "In failure mode each event, good or errored or octet tick: errored adds 1" (c is the count with that added);
-- "count T raises SUER and the monitor goes idle with both counts kept; otherwise the event number rises, and at every
-- D-th event, a decay point, it returns to 0 and the count is lowered, not below 0."
abbrev pub failing : ℕ → ℕ → ℕ → ℕ → Stepped
failing T D c n =
    cond (leb T c) (gives (monitor_of Idle c n) (Some Suer))
    (cond (eqb (n + 1) D) (gives (monitor_of Failure (c - 1) 0) None) (gives (monitor_of Failure c (n + 1)) None))

-- "In alignment mode the event number stays 0, there is no lowering and threshold A raises AERM and idles likewise."
abbrev pub aligning : ℕ → ℕ → ℕ → Stepped
aligning A c n = cond (leb A c) (gives (monitor_of Idle c n) (Some Aerm)) (gives (monitor_of Alignment c n) None)

abbrev pub by_mode : Mode → Stepped → Stepped → Stepped → Stepped
by_mode Failure f a q = f
by_mode Alignment f a q = a
by_mode Idle f a q = q
by_mode Off f a q = q

-- one event, errored or not; "Idle and off count nothing."
unfoldable pub step : Limits → Monitor → Bool → Stepped
step l m e =
    let c = m.count + worth e in
    by_mode m.mode (failing l.t l.d c m.number) (aligning l.a c m.number) (gives m None)
