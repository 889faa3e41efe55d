-- A monitor over events.
use Rattle.std.specs.Prelude.{◌≡◌, ◌⊎◌, Bool, List, [], ◌∷◌, Option}
use Rattle.bits.specs.Machine.{run, outs}
use Rattle.monitor.specs.declared.Mode.TheVariants.{Off, Idle}
use Rattle.monitor.specs.declared.Alarm.{Alarm}
use Rattle.monitor.specs.declared.Monitor.{Monitor}
use Rattle.monitor.specs.declared.Limits.{Limits}
use Rattle.monitor.specs.Monitor.{step}

-- a monitor that counts nothing: "Idle and off count nothing."
abbrev pub OffOrIdle : Monitor → Type 0
OffOrIdle m = (m.mode ≡ Off) ⊎ (m.mode ≡ Idle)

-- the monitor after events, oldest first, and the alarm at each of them
unfoldable pub monitor_after : Limits → Monitor → List Bool → Monitor
monitor_after l = run (λ m e. (step l m e).monitor)

unfoldable pub alarms : Limits → Monitor → List Bool → List (Option Alarm)
alarms l = outs (λ m e. (step l m e).monitor) (λ m e. (step l m e).alarm ∷ [])
