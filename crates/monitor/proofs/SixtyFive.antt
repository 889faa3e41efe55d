-- With threshold 64 and decay every 256, 65 errored events in a row never pass without the alarm having come.
use mathlib.Core.Path.{◌≡◌, refl}
use mathlib.Core.Bool.{Bool, true, false}
use mathlib.Core.List.{List}
use Prim.Native.Nat.{ℕ, zero, suc, ◌+◌, ◌≤◌, ◌<◌}
use native.Mathlib.Decide.{dec_le}
use native.Mathlib.Omega.{arith}
use lib.ListN.{length, get_or-eq_default}
use Rattle.monitor.specs.declared.Mode.TheVariants.{Failure}
use Rattle.std.specs.Prelude.{Some}
use Rattle.monitor.specs.declared.Alarm.TheVariants.{Suer}
use Rattle.monitor.specs.Monitor.{step}
use Rattle.monitor.specs.History.{alarms}
use Rattle.monitor.specs.Stretch.{errored, failures, total, First}
use Rattle.monitor.specs.Promises.{alarm_at, limits_of, AllErrored, SixtyFive, SixtyFiveAlarm, SixtyFourPass}
use Rattle.monitor.proofs.Reflected.{first-exists}
use Rattle.monitor.proofs.Decay.{decay-total}
use Rattle.monitor.proofs.Alarms.{suer-exactly}

-- each of k errored events adds 1
errored-total : (D : ℕ) (h : List Bool) (i k : ℕ) → AllErrored h i k → total (failures D).up h (suc i) k ≡ k
unfolding total
errored-total D h i zero all = refl
errored-total D h i (suc k) all =
    rw (all (suc i + k) (omega arith) (omega arith), errored-total D h i k (λ j p q. all j p (omega arith))) (omega arith)

-- the stretch of the sixty-five holds at most one decay point before its last event
pub sixty-five : SixtyFive
sixty-five h i all =
    let d = decay-total 256 h i 64 in
    let u = errored-total 256 h i _ all in
    first-exists _ _ h (i + 65)
    record { first = suc i; more = 64; from_one = omega arith; ends_at = omega arith; balance = omega arith }

-- ---- The same of the monitor itself.
-- an errored event is one of the list
within : (h : List Bool) (n : ℕ) → errored h (suc n) ≡ true → n < length h
within h n q = go (dec_le (length h) n)
  where
    go : Dec (length h ≤ n) → n < length h
    go (no b) = omega arith
    go (yes b) = let d = get_or-eq_default h false {n = n} b in absurd (cc)

pub sixty-five-alarm : SixtyFiveAlarm
sixty-five-alarm A h i all = let w = sixty-five h i all in go w.0 w.1 w.2
  where
    go : (m : ℕ) → m ≤ i + 65 → First 64 (failures 256) h m
        → (n : ℕ) × (n < i + 65) × (alarm_at (limits_of 64 256 A) Failure h n ≡ Some Suer)
    go zero b f = absurd (omega (arith, f.reaches.from_one, f.reaches.ends_at))
    go (suc n) b f =
        let long = within h (i + 64) (all (suc (i + 64)) (omega arith) (omega arith)) in
        (n, b, (suer-exactly (limits_of 64 256 A) h n).1 (omega arith, f))

-- ---- Sixty-four, by computation.
pub sixty-four-pass : SixtyFourPass
unfolding alarms step
sixty-four-pass A = refl
