-- One event, mode by mode.
use mathlib.Core.Path.{◌≡◌}
use mathlib.Core.Logic.{inl, inr}
use mathlib.Core.Bool.{Bool}
use Prim.Native.Nat.{◌+◌}
use Rattle.bits.specs.Octets.{worth}
use Rattle.monitor.specs.declared.Mode.TheVariants.{Failure, Alignment}
use Rattle.std.specs.Prelude.{None}
use Rattle.monitor.specs.declared.Monitor.{Monitor}
use Rattle.monitor.specs.declared.Limits.{Limits}
use Rattle.monitor.specs.Monitor.{gives, failing, aligning, step}
use Rattle.monitor.specs.History.{OffOrIdle}

module _ (l : Limits) (m : Monitor) (e : Bool) where
  pub step-failing : m.mode ≡ Failure → step l m e ≡ failing l.t l.d (m.count + worth e) m.number
  unfolding step
  step-failing q = rw q

  pub step-aligning : m.mode ≡ Alignment → step l m e ≡ aligning l.a (m.count + worth e) m.number
  unfolding step
  step-aligning q = rw q

  pub step-off-or-idle : OffOrIdle m → step l m e ≡ gives m None
  unfolding step
  step-off-or-idle (inl q) = rw q
  step-off-or-idle (inr q) = rw q
