-- A happening and the monitor. The front end of the receiver gives happenings in order and never looks at the monitor; the monitor, the
-- event bits and the records follow from the happenings.
use Rattle.std.specs.Prelude.{ℕ, Bool, true, false, cond, Option, Some, None}
use Rattle.std.specs.Int.Bits.{bit_or}
use Rattle.monitor.specs.declared.Alarm.{Alarm}
use Rattle.monitor.specs.declared.Alarm.TheVariants.{Suer, Aerm}
use Rattle.monitor.specs.declared.Limits.{Limits}
use Rattle.monitor.specs.declared.Stepped.{Stepped}
use Rattle.monitor.specs.Monitor.{step}
use Rattle.board.specs.declared.events.Event.TheVariants as events
use Rattle.board.specs.Events.{event_bit}
use Rattle.records.specs.declared.Happening.{Happening}
use Rattle.board.specs.declared.Supervision.{Supervision}
use Rattle.records.specs.declared.Noted.{Noted}

-- "Event bits, kept until cleared: [..] 2 SUER, 3 AERM"
abbrev pub alarm_bit : Option Alarm → ℕ
alarm_bit None = 0
alarm_bit (Some Suer) = event_bit events.Suer
alarm_bit (Some Aerm) = event_bit events.Aerm

-- "13 one if this event raised SUER or AERM"
abbrev pub raises : Option Alarm → Bool
raises None = false
raises (Some alarm) = true

abbrev pub noted_step : ℕ → Stepped → Noted
noted_step own s = record { supervision = record { monitor = s.monitor; events = bit_or own (alarm_bit s.alarm) }; raised = raises s.alarm }

-- "The monitor takes one event, errored or not", if the happening is one; its own event bits and the alarm's are set
unfoldable pub noted : Limits → Supervision → Happening → Noted
noted l w h =
    cond h.event (noted_step (bit_or w.events h.bits) (step l w.monitor h.errored))
    (record { supervision = record { monitor = w.monitor; events = bit_or w.events h.bits }; raised = false })
