-- The scope's proved cases of the monitors, P8 to P11.
use mathlib.Core.Path.{◌≡◌, refl, ap}
use mathlib.Core.Logic.{inr}
use mathlib.Core.Bool.{Bool, true, false}
use mathlib.Core.List.{List, [], ◌∷◌, ◌++◌}
use Prim.Native.Nat.{ℕ, zero, suc, ◌+◌}
use lib.Dec.{eqb}
use lib.ListN.{length, replicate}
use Rattle.monitor.specs.declared.Mode.TheVariants.{Failure}
use Rattle.std.specs.Prelude.{Option, Some, None}
use Rattle.monitor.specs.declared.Alarm.{Alarm}
use Rattle.monitor.specs.declared.Alarm.TheVariants.{Suer}
use Rattle.monitor.specs.Monitor.{monitor_of, started, gives, step}
use Rattle.monitor.specs.History.{alarms}
use Rattle.monitor.specs.Promises.{limits_of, P8, P9, P10, P11}
use Rattle.monitor.proofs.Alarms.{off-or-idle-stays}

-- P8 and P9 by computation
pub p8 : P8
unfolding alarms step
p8 A = refl

pub p9 : P9
unfolding alarms step
p9 A = refl

-- P10: every event is a decay point and leaves the monitor as it was started
as-started : (A : ℕ) (e : Bool) → step (limits_of 2 1 A) (started Failure) e ≡ gives (started Failure) None
unfolding step
as-started A true = refl
as-started A false = refl

pub p10 : P10
unfolding alarms
p10 A [] n = refl
p10 A (e ∷ h) zero = rw (as-started A e)
p10 A (e ∷ h) (suc n) = rw (as-started A e) (p10 A h n)

-- P11: at any event number, since good events leave the count at 0
abbrev AtFirst : ℕ → ℕ → ℕ → List Bool → ℕ → Type 0
AtFirst D A k rest n =
    alarms (limits_of 1 D A) (monitor_of Failure 0 n) (replicate k false ++ (true ∷ rest))
    ≡ replicate k None ++ (Some Suer ∷ replicate (length rest) None)

at_first : (D A k : ℕ) (rest : List Bool) (n : ℕ) → AtFirst D A k rest n
unfolding alarms step
at_first D A zero rest n = ap (λ (a : List (Option Alarm)). Some Suer ∷ a) (off-or-idle-stays _ _ rest (inr refl)).1
at_first D A (suc k) rest n = go (at_first D A k rest) (eqb (n + 1) D) refl
  where
    go : ((j : ℕ) → AtFirst D A k rest j) → (b : Bool) → eqb (n + 1) D ≡ b → AtFirst D A (suc k) rest n
    go later true q = rw q (ap (λ (a : List (Option Alarm)). None ∷ a) (later 0))
    go later false q = rw q (ap (λ (a : List (Option Alarm)). None ∷ a) (later (n + 1)))

pub p11 : P11
p11 D A k rest = at_first D A k rest 0
