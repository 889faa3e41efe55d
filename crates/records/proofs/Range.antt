-- The numbers of a monitor stay in range.
use Prim.Native.Nat.{ℕ, ◌+◌, ◌-◌, ◌≤◌, ◌<◌}
use mathlib.Core.Path.{◌≡◌, refl}
use mathlib.Core.Logic.{inl, inr}
use mathlib.Core.Bool.{Bool, true, false, cond}
use native.Mathlib.Omega.{arith}
use lib.Dec.{eqb, leb}
use borrow.Author.Tests.{leb-false, eqb-false}
use Rattle.board.specs.Limits.{monitor_limits}
use Rattle.board.specs.InnerRanges.{SettingsInRange, MonitorInRange}
use Rattle.board.specs.declared.Settings.{Settings}
use Rattle.bits.specs.Octets.{worth}
use Rattle.bits.proofs.Digits.{worth-lt}
use Rattle.std.specs.Prelude.{Some, None}
use Rattle.monitor.specs.declared.Mode.{Mode}
use Rattle.monitor.specs.declared.Mode.TheVariants.{Off, Failure, Alignment, Idle}
use Rattle.monitor.specs.declared.Alarm.TheVariants.{Suer, Aerm}
use Rattle.monitor.specs.declared.Monitor.{Monitor}
use Rattle.monitor.specs.Monitor.{monitor_of, gives, failing, aligning, step}
use Rattle.monitor.proofs.Steps.{step-failing, step-aligning, step-off-or-idle}
use Rattle.records.specs.Record.{supervised}
use Rattle.records.specs.Promises.{StaysInRange, RangeTakes}
use Rattle.records.proofs.Noting.{noted-event, noted-none}

module _ (s : Settings) (r : SettingsInRange s) where
  -- c is the count with the event added
  failing-in : (c n : ℕ) → c ≤ s.t → n < s.d → MonitorInRange s (failing s.t s.d c n).monitor
  failing-in c n p q = go (leb s.t c) refl (eqb (n + 1) s.d) refl
    where
      go : (b : Bool) → leb s.t c ≡ b → (d : Bool) → eqb (n + 1) s.d ≡ d
          → MonitorInRange s (cond b (gives (monitor_of Idle c n) (Some Suer)) (cond d (gives (monitor_of Failure (c - 1) 0) None) (gives (monitor_of Failure c (n + 1)) None))).monitor
      go true u d v = record { number = q; count = omega (arith, r.t.1) }
      go false u true v = record { number = omega (arith, r.d.0); count = omega (arith, leb-false s.t c u) }
      go false u false v =
          let k : n + 1 ≡ s.d → ⊥ = eqb-false (n + 1) s.d v in
          record { number = omega arith; count = leb-false s.t c u }

  aligning-in : (c n : ℕ) → c ≤ s.a → n < s.d → MonitorInRange s (aligning s.a c n).monitor
  aligning-in c n p q = go (leb s.a c) refl
    where
      go : (b : Bool) → leb s.a c ≡ b
          → MonitorInRange s (cond b (gives (monitor_of Idle c n) (Some Aerm)) (gives (monitor_of Alignment c n) None)).monitor
      go true u = record { number = q; count = omega (arith, r.a.1) }
      go false u = record { number = q; count = leb-false s.a c u }

  step_in : (m : Monitor) (e : Bool) → MonitorInRange s m → MonitorInRange s (step (monitor_limits s) m e).monitor
  step_in m e i = go m.mode refl
    where
      go : (k : Mode) → m.mode ≡ k → MonitorInRange s (step (monitor_limits s) m e).monitor
      go Failure q =
          let c : m.count < s.t = rw q at i.count in
          rw (step-failing (monitor_limits s) m e q) (failing-in (m.count + worth e) m.number (omega (arith, worth-lt e)) i.number)
      go Alignment q =
          let c : m.count < s.a = rw q at i.count in
          rw (step-aligning (monitor_limits s) m e q) (aligning-in (m.count + worth e) m.number (omega (arith, worth-lt e)) i.number)
      go Off q = rw (step-off-or-idle (monitor_limits s) m e (inl q)) i
      go Idle q = rw (step-off-or-idle (monitor_limits s) m e (inr q)) i

pub stays-in-range : StaysInRange
stays-in-range s w h r i = go h.event refl
  where
    go : (b : Bool) → h.event ≡ b → MonitorInRange s (supervised (monitor_limits s) w h).monitor
    go true e = rw (noted-event (monitor_limits s) w h e, supervised) (step_in s r w.monitor h.errored i)
    go false e = rw (noted-none (monitor_limits s) w h e, supervised) i

pub range-takes : RangeTakes
range-takes s m r i = (go m.mode refl, omega (arith, r.d.1, i.number))
  where
    go : (k : Mode) → m.mode ≡ k → m.count < 65535
    go Failure q = let c : m.count < s.t = rw q at i.count in omega (arith, r.t.1)
    go Alignment q = let c : m.count < s.a = rw q at i.count in omega (arith, r.a.1)
    go Off q = let c : m.count ≤ 1024 = rw q at i.count in omega arith
    go Idle q = let c : m.count ≤ 1024 = rw q at i.count in omega arith
