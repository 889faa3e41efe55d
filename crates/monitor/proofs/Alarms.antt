-- Both monitors alarm exactly where the law says: at the first event since the start that ends a stretch which reaches the threshold.
use mathlib.Core.Path.{◌≡◌, refl, sym, ap, subst, ◌∙◌}
use mathlib.Core.Logic.{◌↔◌, ◌⊎◌, inl, inr, ⊎_elim}
use mathlib.Core.Bool.{Bool, true, false}
use mathlib.Core.List.{List, [], ◌∷◌, ◌++◌, append_assoc, append-nil}
use Prim.Native.Nat.{ℕ, zero, suc, ◌+◌, ◌-◌, ◌≤◌, ◌<◌, ◌%◌}
use native.Mathlib.Nat.{zero-add, zero-mod}
use native.Mathlib.Omega.{arith}
use lib.Dec.{leb, eqb}
use lib.ListN.{length, get_or}
use borrow.Author.Tests.{leb-true, leb-false, eqb-true, eqb-false, ne_eqb}
use Rattle.monitor.specs.ErrorMonitors.{ErrorMonitor, suerm, aerm, mode_of, alarm_of, threshold_of, rule_of}
use Rattle.bits.specs.Octets.{worth}
use Rattle.monitor.specs.declared.Mode.TheVariants.{Idle}
use Rattle.std.specs.Prelude.{Option, Some, None}
use Rattle.monitor.specs.declared.Alarm.{Alarm}
use Rattle.monitor.specs.declared.Monitor.{Monitor}
use Rattle.monitor.specs.declared.Limits.{Limits}
use Rattle.monitor.specs.declared.Stepped.{Stepped}
use Rattle.monitor.specs.Monitor.{started, failing, aligning, step}
use Rattle.monitor.specs.History.{monitor_after, alarms}
use Rattle.monitor.specs.Stretch.{decay_point, failures, alignments, First}
use Rattle.monitor.specs.Promises.{alarm_at, SuerExactly, AermExactly, FailureNeverAerm, AlignmentNeverSuer, OffOrIdleStays}
use Rattle.monitor.proofs.Steps.{step-failing, step-aligning, step-off-or-idle}
use Rattle.monitor.proofs.Decay.{wraps, rises}
use Rattle.monitor.proofs.Reflected.{snoc, length-snoc, Tracks, tracks-start, tracks-test, tracks-next, first-grown}

-- the event number after n events
abbrev pub number-after : ErrorMonitor → Limits → ℕ → ℕ
number-after suerm l n = n % l.d
number-after aerm l n = 0

-- of the events h since the start, event n is the one that the alarm comes at
abbrev pub AlarmAt : ErrorMonitor → Limits → List Bool → ℕ → Type 0
AlarmAt x l h n = First (threshold_of x l) (rule_of x l) h n

-- ---- The running form: a monitor that was started, after the events h, either runs, or has alarmed and is idle.
pub record Runs (x : ErrorMonitor) (l : Limits) (h : List Bool) (m : Monitor) : Type 0 where
  pub mode : m.mode ≡ mode_of x
  pub tracks : Tracks (threshold_of x l) (rule_of x l) h m.count
  pub number : m.number ≡ number-after x l (length h)

pub record Alarmed (x : ErrorMonitor) (l : Limits) (h : List Bool) (m : Monitor) : Type 0 where
  pub mode : m.mode ≡ Idle
  pub event : ℕ
  pub by : event ≤ length h
  pub alarm : AlarmAt x l h event

abbrev pub Follows : ErrorMonitor → Limits → List Bool → Monitor → Type 0
Follows x l h m = Runs x l h m ⊎ Alarmed x l h m

number-start : (x : ErrorMonitor) (l : Limits) → 0 ≡ number-after x l 0
number-start suerm l = sym (zero-mod l.d)
number-start aerm l = refl

pub follows-start : (x : ErrorMonitor) (l : Limits) → Follows x l [] (started (mode_of x))
follows-start x l = inl record { mode = refl; tracks = tracks-start (threshold_of x l) (rule_of x l); number = number-start x l }

-- ---- One event: the test of the threshold, and how the monitor goes on where it is not found.
-- the count with the event added
abbrev added : Monitor → Bool → ℕ
added m e = m.count + worth e

-- the definition's answer at the count c and the event number n
abbrev answer : ErrorMonitor → Limits → ℕ → ℕ → Stepped
answer suerm l c n = failing l.t l.d c n
answer aerm l c n = aligning l.a c n

step-answer : (x : ErrorMonitor) (l : Limits) (m : Monitor) (e : Bool) → m.mode ≡ mode_of x
    → step l m e ≡ answer x l (added m e) m.number
step-answer suerm l m e q = step-failing l m e q
step-answer aerm l m e q = step-aligning l m e q

-- where the threshold_of is found, the monitor alarms and goes idle
idles : (x : ErrorMonitor) (l : Limits) (c n : ℕ) → leb (threshold_of x l) c ≡ true
    → ((answer x l c n).monitor.mode ≡ Idle) × ((answer x l c n).alarm ≡ Some (alarm_of x))
idles suerm l c n q = rw q (refl, refl)
idles aerm l c n q = rw q (refl, refl)

module _ (l : Limits) (h : List Bool) (m : Monitor) (e : Bool) where
  -- the test of the threshold is the law's
  test : (x : ErrorMonitor) → Runs x l h m → (threshold_of x l ≤ added m e) ↔ AlarmAt x l (snoc h e) (suc (length h))
  test suerm r = tracks-test l.t (failures l.d) h m.count e r.tracks
  test aerm r = tracks-test l.a alignments h m.count e r.tracks

  abbrev Onward : ErrorMonitor → Stepped → Type 0
  Onward x s = Runs x l (snoc h e) s.monitor × (s.alarm ≡ None)

  -- where the threshold_of is not found, the monitor runs on
  runs_on : (x : ErrorMonitor) → Runs x l h m → leb (threshold_of x l) (added m e) ≡ false → Onward x (answer x l (added m e) m.number)
  runs_on aerm r q =
      let d : added m e - 0 ≡ added m e = omega arith in
      let next = rw d at (tracks-next l.a alignments h m.count e r.tracks (leb-false l.a (added m e) q)) in
      rw q (record { mode = refl; tracks = next; number = r.number }, refl)
  runs_on suerm r q = go (eqb (m.number + 1) l.d) refl
    where
      next : Tracks l.t (failures l.d) (snoc h e) (added m e - worth (decay_point l.d (suc (length h))))
      next = tracks-next l.t (failures l.d) h m.count e r.tracks (leb-false l.t (added m e) q)

      go : (b : Bool) → eqb (m.number + 1) l.d ≡ b → Onward suerm (answer suerm l (added m e) m.number)
      go true p =
          let v = wraps (length h) l.d (omega (arith, eqb-true (m.number + 1) l.d p, r.number)) in
          rw (q, p) (record { mode = refl; tracks = rw v at next; number = rw (length-snoc h e) (sym v) }, refl)
      go false p =
          let n = eqb-false (m.number + 1) l.d p in
          let v = rises (length h) l.d (λ z. n (omega (arith, r.number))) in
          let d = ne_eqb (suc (length h) % l.d) 0 (omega arith) in
          let k : added m e - worth (decay_point l.d (suc (length h))) ≡ added m e = rw d (omega arith) in
          rw (q, p) (record { mode = refl; tracks = rw k at next; number = rw (length-snoc h e) (omega (arith, r.number)) }, refl)

-- ---- One event keeps the running form.
differ : (x : ErrorMonitor) → ¬ (None ≡ Some (alarm_of x))
differ x q = cc

-- what an event leaves follows, the alarm comes exactly where the law says, and no other alarm comes
abbrev Kept : ErrorMonitor → Limits → List Bool → Bool → Stepped → Type 0
Kept x l h e s =
    Follows x l (snoc h e) s.monitor
    × ((s.alarm ≡ Some (alarm_of x)) ↔ AlarmAt x l (snoc h e) (suc (length h)))
    × ((s.alarm ≡ None) ⊎ (s.alarm ≡ Some (alarm_of x)))

module _ (x : ErrorMonitor) (l : Limits) (h : List Bool) (m : Monitor) (e : Bool) where
  kept-runs : Runs x l h m → Kept x l h e (step l m e)
  kept-runs r = go (leb (threshold_of x l) (added m e)) refl
    where
      go : (b : Bool) → leb (threshold_of x l) (added m e) ≡ b → Kept x l h e (step l m e)
      go true q =
          let w = (test l h m e x r).0 (leb-true (threshold_of x l) (added m e) q) in
          let a = idles x l (added m e) m.number q in
          rw (step-answer x l m e r.mode) (
            inr record { mode = a.0; event = suc (length h); by = rw length-snoc (omega arith); alarm = w },
            (λ _. w, λ _. a.1),
            inr a.1,
          )
      go false q =
          let on = runs_on l h m e x r q in
          let under = leb-false (threshold_of x l) (added m e) q in
          rw (step-answer x l m e r.mode) (
            inl on.0,
            (λ z. absurd (differ x (sym on.1 ∙ z)), λ w. absurd (omega (arith, under, (test l h m e x r).1 w))),
            inl on.1,
          )

  kept-alarmed : Alarmed x l h m → Kept x l h e (step l m e)
  kept-alarmed r =
      let w = (first-grown (threshold_of x l) (rule_of x l) h (e ∷ []) r.event r.by).0 r.alarm in
      rw (step-off-or-idle l m e (inr r.mode)) (
        inr record { mode = r.mode; event = r.event; by = rw length-snoc (omega (arith, r.by)); alarm = w },
        (λ q. absurd (differ x q), λ v. absurd (v.none_before r.event (omega (arith, r.by)) w.reaches)),
        inl refl,
      )

  kept : Follows x l h m → Kept x l h e (step l m e)
  kept (inl r) = kept-runs r
  kept (inr r) = kept-alarmed r

  pub follows_next : Follows x l h m → Follows x l (snoc h e) (step l m e).monitor
  follows_next f = (kept f).0

  pub follows-alarm : Follows x l h m → ((step l m e).alarm ≡ Some (alarm_of x)) ↔ AlarmAt x l (snoc h e) (suc (length h))
  follows-alarm f = (kept f).1

  pub follows-only : Follows x l h m → ((step l m e).alarm ≡ None) ⊎ ((step l m e).alarm ≡ Some (alarm_of x))
  follows-only f = (kept f).2

-- ---- Any list of events.
module _ (x : ErrorMonitor) (l : Limits) where
  pub follows-after : (g h : List Bool) (m : Monitor) → Follows x l h m → Follows x l (h ++ g) (monitor_after l m g)
  unfolding monitor_after
  follows-after [] h m f = rw append-nil f
  follows-after (e ∷ g) h m f =
      rw append_assoc at (follows-after g (snoc h e) (step l m e).monitor (follows_next x l h m e f))

  -- the same event, in whatever way the list and its number are written
  same-alarm : {h k : List Bool} {a b : ℕ} → h ≡ k → a ≡ b → AlarmAt x l h a → AlarmAt x l k b
  same-alarm {h} {k} {a} {b} p q w = subst (λ (n : ℕ). AlarmAt x l k n) q (subst (λ (g : List Bool). AlarmAt x l g a) p w)

  -- the alarm comes at an event exactly if the law names that event
  pub alarm-exactly : (g h : List Bool) (m : Monitor) (n : ℕ) → Follows x l h m
      → (get_or (alarms l m g) n None ≡ Some (alarm_of x)) ↔ ((n < length g) × AlarmAt x l (h ++ g) (suc (length h + n)))
  unfolding alarms
  alarm-exactly [] h m n f = (λ q. absurd (differ x q), λ w. absurd (omega (arith, w.0)))
  alarm-exactly (e ∷ g) h m zero f =
      let w = follows-alarm x l h m e f in
      let b : suc (length h) ≤ length (snoc h e) = omega (arith, length-snoc h e) in
      let v = first-grown (threshold_of x l) (rule_of x l) (snoc h e) g (suc (length h)) b in
      let p = append_assoc h (e ∷ []) g in
      let z : suc (length h) ≡ suc (length h + 0) = omega arith in
      (λ q. (omega arith, same-alarm p z (v.0 (w.0 q))), λ k. w.1 (v.1 (same-alarm (sym p) (sym z) k.1)))
  alarm-exactly (e ∷ g) h m (suc n) f =
      let i = alarm-exactly g (snoc h e) (step l m e).monitor n (follows_next x l h m e f) in
      let p = append_assoc h (e ∷ []) g in
      let z : suc (length (snoc h e) + n) ≡ suc (length h + suc n) = omega (arith, length-snoc h e) in
      (λ q. (omega (arith, (i.0 q).0), same-alarm p z (i.0 q).1), λ k. i.1 (omega (arith, k.0), same-alarm (sym p) (sym z) k.1))

  -- and no other alarm comes
  pub alarm-only : (g h : List Bool) (m : Monitor) (n : ℕ) → Follows x l h m
      → (get_or (alarms l m g) n None ≡ None) ⊎ (get_or (alarms l m g) n None ≡ Some (alarm_of x))
  unfolding alarms
  alarm-only [] h m n f = inl refl
  alarm-only (e ∷ g) h m zero f = follows-only x l h m e f
  alarm-only (e ∷ g) h m (suc n) f = alarm-only g (snoc h e) (step l m e).monitor n (follows_next x l h m e f)

  -- from a start, events counting from 1
  from_start : (h : List Bool) (n : ℕ) → (alarm_at l (mode_of x) h n ≡ Some (alarm_of x)) ↔ ((n < length h) × AlarmAt x l h (suc n))
  from_start h n = rw zero-add at (alarm-exactly h [] (started (mode_of x)) n (follows-start x l))

-- ---- The two alarms.
pub suer-exactly : SuerExactly
suer-exactly = from_start suerm

pub aerm-exactly : AermExactly
aerm-exactly = from_start aerm

-- ---- The failure monitor never gives AERM, nor the alignment monitor SUER.
abbrev other : ErrorMonitor → ErrorMonitor
other suerm = aerm
other aerm = suerm

apart : (x : ErrorMonitor) → ¬ (Some (alarm_of x) ≡ Some (alarm_of (other x)))
apart suerm q = cc
apart aerm q = cc

never_other : (x : ErrorMonitor) (l : Limits) (h : List Bool) (n : ℕ) → ¬ (alarm_at l (mode_of x) h n ≡ Some (alarm_of (other x)))
never_other x l h n q =
    ⊎_elim (λ r. differ (other x) (sym r ∙ q)) (λ r. apart x (sym r ∙ q))
    (alarm-only x l h [] (started (mode_of x)) n (follows-start x l))

pub failure-never-aerm : FailureNeverAerm
failure-never-aerm = never_other suerm

pub alignment-never-suer : AlignmentNeverSuer
alignment-never-suer = never_other aerm

-- ---- Off and idle.
pub off-or-idle-stays : OffOrIdleStays
unfolding monitor_after alarms
off-or-idle-stays l m [] q = (refl, refl)
off-or-idle-stays l m (e ∷ h) q =
    let i = off-or-idle-stays l m h q in
    rw (step-off-or-idle l m e q) (i.0, ap (λ (a : List (Option Alarm)). None ∷ a) i.1)
