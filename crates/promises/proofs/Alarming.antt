-- The alarm at each thing that a call brings: in octet 13 of its record, in the event bits, and by the history's law.
use Prim.Native.Nat.{ℕ, zero, suc, ◌+◌, ◌*◌, ◌<◌}
use mathlib.Core.Path.{◌≡◌, refl, sym, ap, subst, ◌∙◌}
use mathlib.Core.Logic.{◌↔◌, ◌⊎◌, inl, inr, ⊎_elim}
use mathlib.Core.Bool.{Bool, true, false, cond, false≢true}
use mathlib.Core.List.{List, [], ◌∷◌, ◌++◌}
use native.Mathlib.Omega.{arith}
use lib.ListN.{length, get_or, take, replicate, get_or-append}
use lib.Seq.{get_or-append-add}
use Rattle.std.specs.Prelude.{Option, Some, None}
use Rattle.std.proofs.lemmas.Option.{none-some}
use Rattle.monitor.specs.Stretch.{First}
use Rattle.bits.specs.Octets.{worth}
use Rattle.monitor.specs.declared.Alarm.{Alarm}
use Rattle.monitor.specs.declared.Limits.{Limits}
use Rattle.monitor.specs.Monitor.{step}
use Rattle.monitor.specs.History.{OffOrIdle, alarms}
use Rattle.monitor.specs.ErrorMonitors.{ErrorMonitor, suerm, aerm, alarm_of, threshold_of, rule_of}
use Rattle.monitor.proofs.Alarms.{Follows, alarm-exactly, alarm-only, off-or-idle-stays}
use Rattle.board.specs.declared.Supervision.{Supervision}
use Rattle.board.specs.Limits.{record_octets}
use Rattle.records.specs.declared.Happening.{Happening}
use Rattle.records.specs.declared.Noted.{Noted}
use Rattle.records.specs.Happening.{raises, noted}
use Rattle.records.specs.Record.{recorded, supervised, records_of}
use Rattle.records.specs.Promises.{FirstFive, more}
use Rattle.records.proofs.Noting.{noted-event, noted-none}
use Rattle.records.proofs.Supervising.{record-size, octet-thirteen}
use Rattle.promises.specs.History.{events, is_event, Since, stopped, started, History}
use Rattle.promises.specs.Demand3.{AlarmAt, other, NotStarted}
use Rattle.promises.proofs.Holding.{Agrees}

-- there are two monitors
both_of : (x y : ErrorMonitor) → (y ≡ x) ⊎ (y ≡ other x)
both_of suerm suerm = inl refl
both_of suerm aerm = inr refl
both_of aerm suerm = inr refl
both_of aerm aerm = inl refl

-- ---- the alarm at thing k
abbrev pub alarm_at : Limits → Supervision → List Happening → ℕ → Option Alarm
alarm_at l w [] k = None
alarm_at l w (h ∷ hs) zero = cond h.event (step l w.monitor h.errored).alarm None
alarm_at l w (h ∷ hs) (suc k) = alarm_at l (supervised l w h) hs k

raised_is : (l : Limits) (w : Supervision) (h : Happening) → (noted l w h).raised ≡ raises (alarm_at l w (h ∷ []) 0)
raised_is l w h = go h.event refl
  where
    go : (b : Bool) → h.event ≡ b → (noted l w h).raised ≡ raises (cond b (step l w.monitor h.errored).alarm None)
    go true e = ap (λ (n : Noted). n.raised) (noted-event l w h e)
    go false e = ap (λ (n : Noted). n.raised) (noted-none l w h e)

-- octet 13 of its record
pub octet-13 : (l : Limits) (hs : List Happening) (w : Supervision) (k : ℕ) → FirstFive hs → k < length hs
    → get_or (records_of l w hs) (record_octets * k + 13) 0 ≡ worth (raises (alarm_at l w hs k))
unfolding records_of
octet-13 l [] w k f b = absurd (omega arith)
octet-13 l (h ∷ hs) w zero (more e f) b =
    let n : 13 < length (recorded l w h) = omega (arith, record-size h (noted l w h).supervision.monitor.count (noted l w h).raised e) in
    get_or-append (recorded l w h) (records_of l (supervised l w h) hs) 0 13 n
    ∙ octet-thirteen h _ _ e ∙ ap worth (raised_is l w h)
octet-13 l (h ∷ hs) w (suc k) (more e f) b =
    let n = record-size h (noted l w h).supervision.monitor.count (noted l w h).raised e in
    let at : record_octets * suc k + 13 ≡ length (recorded l w h) + (record_octets * k + 13) = omega arith in
    ap (λ (i : ℕ). get_or (recorded l w h ++ records_of l (supervised l w h) hs) i 0) at
    ∙ get_or-append-add (recorded l w h) (records_of l (supervised l w h) hs) (record_octets * k + 13) 0
    ∙ octet-13 l hs (supervised l w h) k f (omega arith)

-- the alarm among those of the events
pub alarm-among : (l : Limits) (hs : List Happening) (w : Supervision) (k : ℕ)
    → alarm_at l w hs k ≡ cond (is_event hs k) (get_or (alarms l w.monitor (events hs)) (length (events (take k hs))) None) None
unfolding alarms
alarm-among l [] w k = refl
alarm-among l (h ∷ hs) w zero = go h.event
  where
    go : (b : Bool) → cond b (step l w.monitor h.errored).alarm None
        ≡ cond b (get_or (alarms l w.monitor (cond b (h.errored ∷ events hs) (events hs))) 0 None) None
    go true = refl
    go false = refl
alarm-among l (h ∷ hs) w (suc k) = alarm-among l hs (supervised l w h) k ∙ go h.event refl
  where
    go : (b : Bool) → h.event ≡ b
        → cond (is_event hs k) (get_or (alarms l (supervised l w h).monitor (events hs)) (length (events (take k hs))) None) None
        ≡ cond (is_event hs k) (get_or (alarms l w.monitor (cond b (h.errored ∷ events hs) (events hs))) (length (cond b (h.errored ∷ events (take k hs)) (events (take k hs)))) None) None
    go true e =
        ap (λ (n : Noted). cond (is_event hs k) (get_or (alarms l n.supervision.monitor (events hs)) (length (events (take k hs))) None) None) (noted-event l w h e)
    go false e =
        ap (λ (n : Noted). cond (is_event hs k) (get_or (alarms l n.supervision.monitor (events hs)) (length (events (take k hs))) None) None) (noted-none l w h e)

-- an event has its place among the events
place : (hs : List Happening) (k : ℕ) → is_event hs k ≡ true → length (events (take k hs)) < length (events hs)
place [] k e = absurd (false≢true e)
place (h ∷ hs) zero e = rw e (omega arith)
place (h ∷ hs) (suc k) e = go h.event (place hs k e)
  where
    go : (b : Bool) → length (events (take k hs)) < length (events hs)
        → length (cond b (h.errored ∷ events (take k hs)) (events (take k hs))) < length (cond b (h.errored ∷ events hs) (events hs))
    go true p = omega arith
    go false p = p

-- ---- the law
apart : (x y : ErrorMonitor) → Some (alarm_of x) ≡ Some (alarm_of y) → x ≡ y
apart suerm suerm q = refl
apart aerm aerm q = refl
apart suerm aerm q = cc
apart aerm suerm q = cc

-- where there is no event there is no alarm
no-event : (l : Limits) (hs : List Happening) (w : Supervision) (k : ℕ) → is_event hs k ≡ false → alarm_at l w hs k ≡ None
no-event l hs w k e = rw e at (alarm-among l hs w k)

an-event : (l : Limits) (hs : List Happening) (w : Supervision) (k : ℕ) → is_event hs k ≡ true
    → alarm_at l w hs k ≡ get_or (alarms l w.monitor (events hs)) (length (events (take k hs))) None
an-event l hs w k e = rw e at (alarm-among l hs w k)

module _ (h : History) (hs : List Happening) (w : Supervision) (a : Agrees h.limits h.since w.monitor) where
  abbrev at : ℕ → Option Alarm
  at k = alarm_at h.limits w hs k

  -- a monitor that was not started, or was stopped, raises nothing
  quiet : h.since ≡ stopped → (k : ℕ) → at k ≡ None
  quiet s k = go (is_event hs k) refl
    where
      off : OffOrIdle w.monitor
      off = subst (λ (x : Since). Agrees h.limits x w.monitor) s a

      go : (b : Bool) → is_event hs k ≡ b → at k ≡ None
      go true e =
          an-event h.limits hs w k e
          ∙ ap (λ (all : List (Option Alarm)). get_or all (length (events (take k hs))) None) (off-or-idle-stays h.limits w.monitor (events hs) off).1
          ∙ nothing-there (length (events hs)) (length (events (take k hs)))
        where
          nothing-there : (n i : ℕ) → get_or {A = Option Alarm} (replicate n None) i None ≡ None
          nothing-there zero i = refl
          nothing-there (suc n) zero = refl
          nothing-there (suc n) (suc i) = nothing-there n i
      go false e = no-event h.limits hs w k e

  -- the monitor that was started raises its own alarm or none
  pub only : (x : ErrorMonitor) (earlier : List Bool) → h.since ≡ started x earlier → (k : ℕ) → (at k ≡ None) ⊎ (at k ≡ Some (alarm_of x))
  only x earlier s k = go (is_event hs k) refl
    where
      f : Follows x h.limits earlier w.monitor
      f = subst (λ (y : Since). Agrees h.limits y w.monitor) s a

      go : (b : Bool) → is_event hs k ≡ b → (at k ≡ None) ⊎ (at k ≡ Some (alarm_of x))
      go true e =
          subst (λ (y : Option Alarm). (y ≡ None) ⊎ (y ≡ Some (alarm_of x))) (sym (an-event h.limits hs w k e))
          (alarm-only x h.limits (events hs) earlier w.monitor (length (events (take k hs))) f)
      go false e = inl (no-event h.limits hs w k e)

  -- it comes exactly where the history names the event
  pub alarm-law : (x : ErrorMonitor) (k : ℕ) → (at k ≡ Some (alarm_of x)) ↔ AlarmAt x h hs k
  alarm-law x k = (λ q. there h.since refl q, λ n. back n)
    where
      exact : (earlier : List Bool) → h.since ≡ started x earlier
          → (get_or (alarms h.limits w.monitor (events hs)) (length (events (take k hs))) None ≡ Some (alarm_of x))
          ↔ ((length (events (take k hs)) < length (events hs)) × First (threshold_of x h.limits) (rule_of x h.limits) (earlier ++ events hs) (suc (length earlier + length (events (take k hs)))))
      exact earlier s =
          alarm-exactly x h.limits (events hs) earlier w.monitor (length (events (take k hs)))
          (subst (λ (y : Since). Agrees h.limits y w.monitor) s a)

      event-there : at k ≡ Some (alarm_of x) → (b : Bool) → is_event hs k ≡ b → is_event hs k ≡ true
      event-there q true e = e
      event-there q false e = absurd (none-some (alarm_of x) (sym (no-event h.limits hs w k e) ∙ q))

      there : (s : Since) → h.since ≡ s → at k ≡ Some (alarm_of x) → AlarmAt x h hs k
      there stopped s q = absurd (none-some (alarm_of x) (sym (quiet s k) ∙ q))
      there (started y earlier) s q =
          let same : y ≡ x = ⊎_elim (λ n. absurd (none-some (alarm_of x) (sym n ∙ q))) (λ n. apart y x (sym n ∙ q)) (only y earlier s k) in
          let run = s ∙ ap (λ (z : ErrorMonitor). started z earlier) same in
          let e = event-there q (is_event hs k) refl in
          record { earlier = earlier; running = run; event = e; first = ((exact earlier run).0 (sym (an-event h.limits hs w k e) ∙ q)).1 }

      back : AlarmAt x h hs k → at k ≡ Some (alarm_of x)
      back n = an-event h.limits hs w k n.event ∙ (exact n.earlier n.running).1 (place hs k n.event, n.first)

  -- octet 13 is one exactly there, unless the other monitor is the one that runs
  raises-own : (x : ErrorMonitor) → raises (Some (alarm_of x)) ≡ true
  raises-own suerm = refl
  raises-own aerm = refl

  pub octet-law : (x : ErrorMonitor) (k : ℕ) → NotStarted (other x) h → FirstFive hs → k < length hs
      → (get_or (records_of h.limits w hs) (record_octets * k + 13) 0 ≡ 1) ↔ AlarmAt x h hs k
  octet-law x k not-other five below = (λ q. (alarm-law x k).0 (own h.since refl (sym e ∙ q)), λ n. e ∙ one ((alarm-law x k).1 n))
    where
      e : get_or (records_of h.limits w hs) (record_octets * k + 13) 0 ≡ worth (raises (at k))
      e = octet-13 h.limits hs w k five below

      one : at k ≡ Some (alarm_of x) → worth (raises (at k)) ≡ 1
      one q = ap (λ (y : Option Alarm). worth (raises y)) q ∙ ap worth (raises-own x)

      none-zero : at k ≡ None → worth (raises (at k)) ≡ 1 → ⊥
      none-zero n q = let z = ap (λ (y : Option Alarm). worth (raises y)) n in omega (arith, z, q)

      which : (y : ErrorMonitor) → (y ≡ x) ⊎ (y ≡ other x)
      which = both_of x

      own : (s : Since) → h.since ≡ s → worth (raises (at k)) ≡ 1 → at k ≡ Some (alarm_of x)
      own stopped s q = absurd (none-zero (quiet s k) q)
      own (started y earlier) s q =
          ⊎_elim (λ n. absurd (none-zero n q))
          (λ n. ⊎_elim (λ same. n ∙ ap (λ (z : ErrorMonitor). Some (alarm_of z)) same) (λ same. absurd (not-other earlier (s ∙ ap (λ (z : ErrorMonitor). started z earlier) same))) (which y))
          (only y earlier s k)
