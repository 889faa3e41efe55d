-- The two error monitors that a command starts: the mode that the start sets, the alarm, and the threshold and the rule.
use Rattle.std.specs.Prelude.{ℕ}
use Rattle.monitor.specs.declared.Mode.{Mode}
use Rattle.monitor.specs.declared.Mode.TheVariants.{Failure, Alignment}
use Rattle.monitor.specs.declared.Alarm.{Alarm}
use Rattle.monitor.specs.declared.Alarm.TheVariants.{Suer, Aerm}
use Rattle.monitor.specs.declared.Limits.{Limits}
use Rattle.monitor.specs.Stretch.{Rule, failures, alignments}

-- the signal unit error rate monitor, and the alignment error rate monitor
pub data ErrorMonitor : Type 0 where
  suerm aerm : ErrorMonitor

abbrev pub mode_of : ErrorMonitor → Mode
mode_of suerm = Failure
mode_of aerm = Alignment

abbrev pub alarm_of : ErrorMonitor → Alarm
alarm_of suerm = Suer
alarm_of aerm = Aerm

abbrev pub threshold_of : ErrorMonitor → Limits → ℕ
threshold_of suerm l = l.t
threshold_of aerm l = l.a

abbrev pub rule_of : ErrorMonitor → Limits → Rule
rule_of suerm l = failures l.d
rule_of aerm l = alignments
