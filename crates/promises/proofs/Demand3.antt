-- `Demand3`: when the alarm comes, over lists of calls.
use Prim.Native.Nat.{ℕ, zero, suc, ◌+◌, ◌-◌, ◌*◌, ◌<◌, ◌≤◌}
use mathlib.Core.Path.{◌≡◌, refl, sym, ap, subst, ◌∙◌}
use mathlib.Core.Logic.{◌↔◌, ◌⊎◌, inl, inr, ⊎_elim}
use mathlib.Core.Bool.{Bool, true, false, cond, false≢true}
use mathlib.Core.List.{List, [], ◌∷◌, ◌++◌}
use native.Mathlib.Decide.{dec_le}
use native.Mathlib.Omega.{arith}
use lib.Bits.{bit_or}
use lib.Dec.{eqb}
use lib.ListN.{length, get_or, take, length-append, get_or-eq_default}
use lib.Seq.{get_or-take}
use borrow.Author.Tests.{eqb-true, eqb-false, not-true}
use Rattle.std.specs.Prelude.{Option, Some, None}
use Rattle.monitor.proofs.SixtyFive.{sixty-five}
use Rattle.monitor.proofs.Reflected.{first-grown}
use Rattle.monitor.specs.Promises.{AllErrored}
use Rattle.monitor.specs.Stretch.{First, failures}
use Rattle.promises.proofs.Standing.{came-now, kept_on, taken_back, never-yet}
use Rattle.board.specs.declared.events.Event.TheVariants as bits
use Rattle.link.proofs.Faults.{none}
use Rattle.link.specs.Calls.{opened_link}
use Rattle.link.specs.Commands.{command_of, obeyed, obeying}
use Rattle.link.specs.declared.Command.TheVariants.{MonitorOff, StartFailure, StartAlignment, MustHandOver, CountOctets}
use Rattle.link.specs.declared.Command.{Command}
use Rattle.output.specs.Output.{fill_event}
use Rattle.board.specs.Events.{event_bit}
use Rattle.board.specs.declared.Settings.{Settings}
use Rattle.promises.proofs.EventBits.{bit-or, bit-without}
use Rattle.promises.proofs.Setting.{plain-happenings, bit-after}
use Rattle.input.specs.Refusals.{receive_number}
use Rattle.std.proofs.Math.Bool.{or-false}
use Rattle.std.proofs.lemmas.Bool.{and_parts, and_from, false_from_ne_true, not_from_false}
use Rattle.monitor.specs.declared.Limits.{Limits}
use Rattle.monitor.specs.ErrorMonitors.{ErrorMonitor, suerm, aerm, threshold_of, rule_of}
use Rattle.board.specs.declared.Link.{Link}
use Rattle.board.specs.declared.Supervision.{Supervision}
use Rattle.board.specs.Limits.{record_octets, monitor_limits}
use Rattle.records.specs.declared.Happening.{Happening}
use Rattle.records.specs.Record.{supervision_after, records_of}
use Rattle.units.specs.Indications.{line_indications}
use Rattle.units.specs.Units.{unit_memory}
use Rattle.reception.specs.Line.{line_happenings, line_records}
use Rattle.reception.proofs.Octets.{happenings-five}
use Rattle.link.specs.Refusals.{first}
use Rattle.input.specs.Receive.{ReceiveOutcome, received, receive_answer}
use Rattle.input.specs.Promises.{written}
use Rattle.input.proofs.Cutting.{answered, refused-receive, wrote}
use Rattle.calls.specs.Call.{Call, opens, receive, command, clear, send, fill, read, reads_number, hand_back, wipe, answer, link_after, faults}
use Rattle.promises.specs.History.{Front, number_of, brought, History, Past, past_after, Action, books, brings, starts, stops, wipes, nothing, clears, command_action, action_done, action_of, events, is_event, Since, stopped, started, with_events, history_next}
use Rattle.promises.specs.Demand3.{AlarmAt, other, NotStarted, AlarmIn, bit_set, bit_of, Clears, AlarmCame, Stands, Ends, Demand3}
use Rattle.promises.proofs.Answering.{number_is, link_done, link-done, link-refused}
use Rattle.promises.proofs.Holding.{front_of, Holds, can, line-limits, holds_after, answered-so, supervision-is, by_last, link-last, past-last}
use Rattle.promises.proofs.Alarming.{octet-law, alarm-law}

-- ---- octet 13
module _ (x : ErrorMonitor) (l : Link) (p : Past) (h : Holds l p) (octets pool descriptors records : List ℕ) (k : ℕ) where
  abbrev a : ReceiveOutcome
  a = receive_answer l octets pool descriptors records

  abbrev hs : List Happening
  hs = brought (front_of l) octets pool descriptors

  -- a call that wrote a record was answered 0
  wrote_one : k < a.count → a.number ≡ 0
  unfolding receive_number first
  wrote_one below = go (eqb a.number 0) refl
    where
      go : (b : Bool) → eqb a.number 0 ≡ b → a.number ≡ 0
      go true e = eqb-true a.number 0 e
      go false e =
          let n = eqb-false a.number 0 e in
          let r = refused-receive l octets pool descriptors records (λ z. n (number_is l (receive octets pool descriptors records) ∙ z)) in
          absurd (omega (arith, below, ap (λ (o : ReceiveOutcome). o.count) r))

  module _ (z : a.number ≡ 0) (below : k < a.count) where
    is : a ≡ received l octets pool descriptors records
    is = (answered l octets pool descriptors records z).1

    count-is : a.count ≡ length hs
    unfolding line_happenings
    count-is = ap (λ (o : ReceiveOutcome). o.count) is

    -- the octet of the area is that of the line's records
    in_area : get_or a.records (record_octets * k + 13) 0 ≡ get_or (records_of (monitor_limits l.settings) l.supervision hs) (record_octets * k + 13) 0
    unfolding line_records line_happenings
    in_area =
        let n : first (faults l (receive octets pool descriptors records)) ≡ 0 = sym (number_is l (receive octets pool descriptors records)) ∙ z in
        let w = ap written is ∙ wrote l octets pool descriptors records (can l p h octets pool descriptors records z n) in
        let b : record_octets * k + 13 < record_octets * a.count = omega arith in
        sym (get_or-take (record_octets * a.count) a.records (record_octets * k + 13) 0 b) ∙ ap (λ (rs : List ℕ). get_or rs (record_octets * k + 13) 0) w

    octet-is : NotStarted (other x) p.history
        → (get_or a.records (record_octets * k + 13) 0 ≡ 1) ↔ AlarmAt x p.history hs k
    octet-is not-other =
        let n : first (faults l (receive octets pool descriptors records)) ≡ 0 = sym (number_is l (receive octets pool descriptors records)) ∙ z in
        let e = line-limits l p h octets pool descriptors records z n in
        let o = octet-law p.history hs l.supervision h.monitor x k not-other
        (happenings-five l.settings (line_indications l.settings.m (front_of l).receiver octets) (unit_memory l.units pool descriptors)) (omega (arith, count-is)) in
        let same = in_area ∙ ap (λ (y : Limits). get_or (records_of y l.supervision hs) (record_octets * k + 13) 0) (sym e) in
        (λ q. o.0 (sym same ∙ q), λ q. same ∙ o.1 q)

  pub octet-here : NotStarted (other x) p.history → k < a.count
      → (get_or a.records (record_octets * k + 13) 0 ≡ 1) ↔ AlarmAt x p.history (brought p.front octets pool descriptors) k
  octet-here not-other below =
      subst (λ (f : Front). (get_or a.records (record_octets * k + 13) 0 ≡ 1) ↔ AlarmAt x p.history (brought f octets pool descriptors) k) (sym h.front)
      (octet-is (wrote_one below) below not-other)

-- ---- the event bit after one call
abbrev Bit : ErrorMonitor → Link → Type 0
Bit x l = bit_set (bit_of x) l.supervision.events ≡ true

-- what a call that is answered 0 makes of it: the alarm sets it, and else it is kept unless the call clears it
abbrev After : ErrorMonitor → History → Action → Link → Link → Type 0
After x h d l k = Bit x k ↔ (AlarmIn x h d ⊎ ((¬ Clears x d) × Bit x l))

same_bit : (x : ErrorMonitor) (h : History) (l k : Link) → bit_set (bit_of x) k.supervision.events ≡ bit_set (bit_of x) l.supervision.events
    → (d : Action) → ¬ Clears x d → ¬ AlarmIn x h d → After x h d l k
same_bit x h l k e d c n = (λ q. inr (c, sym e ∙ q), ⊎_elim (λ m. absurd (n m)) (λ m. e ∙ m.1))

no_bits : (x : ErrorMonitor) → bit_set (bit_of x) 0 ≡ true → ⊥
no_bits suerm q = false≢true q
no_bits aerm q = false≢true q

sent-bit : (x : ErrorMonitor) (s : Bool) → bit_set (bit_of x) (fill_event s) ≡ false
sent-bit suerm true = refl
sent-bit suerm false = refl
sent-bit aerm true = refl
sent-bit aerm false = refl

send-bit : (x : ErrorMonitor) → bit_set (bit_of x) (event_bit bits.Sent) ≡ false
send-bit suerm = refl
send-bit aerm = refl

obeyed-events : (c : Option Command) (l : Link) → (obeying c l).supervision.events ≡ l.supervision.events
unfolding obeyed
obeyed-events (Some MonitorOff) l = refl
obeyed-events (Some StartFailure) l = refl
obeyed-events (Some StartAlignment) l = refl
obeyed-events (Some MustHandOver) l = refl
obeyed-events (Some CountOctets) l = refl
obeyed-events None l = refl

command-quiet : (x : ErrorMonitor) (h : History) (c : Option Command) → (¬ Clears x (command_action c)) × (¬ AlarmIn x h (command_action c))
command-quiet x h (Some MonitorOff) = (λ z. z, λ z. z)
command-quiet x h (Some StartFailure) = (λ z. z, λ z. z)
command-quiet x h (Some StartAlignment) = (λ z. z, λ z. z)
command-quiet x h (Some MustHandOver) = (λ z. z, λ z. z)
command-quiet x h (Some CountOctets) = (λ z. z, λ z. z)
command-quiet x h None = (λ z. z, λ z. z)

module _ (x : ErrorMonitor) (l : Link) (p : Past) (h : Holds l p) where
  -- open finds a closed link, and leaves no bit set
  opened-bit : (s : Settings) (pool descriptors : List ℕ) → first (faults l (opens s pool descriptors)) ≡ 0
      → After x p.history (books (monitor_limits s)) l (opened_link s)
  opened-bit s pool descriptors n =
      let n1 = none _ _ _ (λ z. omega arith) n in
      let n3 = none _ _ _ (λ z. omega arith) n1.1 in
      let e = ap (bit_set (bit_of x)) (h.unset n3.0) in
      (λ q. absurd (no_bits x q), ⊎_elim absurd (λ m. absurd (no_bits x (sym e ∙ m.1))))

  received-bit : (octets pool descriptors records : List ℕ) → first (faults l (receive octets pool descriptors records)) ≡ 0
      → After x p.history (brings (brought (front_of l) octets pool descriptors)) l (answer l (receive octets pool descriptors records)).link
  received-bit octets pool descriptors records n =
      let z = number_is l (receive octets pool descriptors records) ∙ n in
      let things = brought (front_of l) octets pool descriptors in
      let e = line-limits l p h octets pool descriptors records z n in
      let v = supervision-is l p h octets pool descriptors records z n ∙ ap (λ (y : Limits). supervision_after y l.supervision things) (sym e) in
      let b = ap (λ (y : Supervision). bit_set (bit_of x) y.events) v in
      let s = bit-after x p.history.limits things l.supervision
      (plain-happenings l.settings (line_indications l.settings.m (front_of l).receiver octets) (unit_memory l.units pool descriptors)) in
      let law = alarm-law p.history things l.supervision h.monitor x in (
        λ q. ⊎_elim (λ m. inr ((λ c. c), m)) (λ m. inl (m.0, (law m.0).0 m.1)) (s.0 (sym b ∙ q)),
        ⊎_elim (λ m. b ∙ s.1 (inr (m.0, (law m.0).1 m.1))) (λ m. b ∙ s.1 (inl m.1)),
      )

  cleared-bit : (chosen : ℕ) → After x p.history (clears chosen) l (link_done l (clear chosen))
  cleared-bit chosen =
      let e = bit-without (bit_of x) l.supervision.events chosen in (
        λ q. let w = and_parts _ _ (sym e ∙ q) in inr ((λ c. false≢true (sym (not-true _ w.1) ∙ c)), w.0),
        ⊎_elim absurd (λ m. e ∙ and_from _ _ m.1 (not_from_false _ (false_from_ne_true (bit_set (bit_of x) chosen) m.0))),
      )

  sent-same : (event : ℕ) → bit_set (bit_of x) event ≡ false
      → bit_set (bit_of x) (bit_or l.supervision.events event) ≡ bit_set (bit_of x) l.supervision.events
  sent-same event e = rw (bit-or (bit_of x) l.supervision.events event, e) (or-false _)

  done-bit : (c : Call) → first (faults l c) ≡ 0 → After x p.history (action_done (front_of l) c) l (answer l c).link
  done-bit (opens s pool descriptors) n =
      subst (λ (k : Link). After x p.history (books (monitor_limits s)) l k) (sym (link-done l (opens s pool descriptors) n)) (opened-bit s pool descriptors n)
  done-bit (receive octets pool descriptors records) n = received-bit octets pool descriptors records n
  done-bit (command k) n =
      same_bit x p.history l (answer l (command k)).link (ap (λ (y : Link). bit_set (bit_of x) y.supervision.events) (link-done l (command k) n) ∙ ap (bit_set (bit_of x)) (obeyed-events (command_of k) l))
      (command_action (command_of k)) (command-quiet x p.history (command_of k)).0 (command-quiet x p.history (command_of k)).1
  done-bit (clear chosen) n =
      subst (λ (k : Link). After x p.history (clears chosen) l k) (sym (link-done l (clear chosen) n)) (cleared-bit chosen)
  done-bit (send content output) n =
      same_bit x p.history l (answer l (send content output)).link (ap (λ (y : Link). bit_set (bit_of x) y.supervision.events) (link-done l (send content output) n) ∙ sent-same (event_bit bits.Sent) (send-bit x))
      nothing (λ z. z) (λ z. z)
  done-bit (fill output) n =
      same_bit x p.history l (answer l (fill output)).link (ap (λ (y : Link). bit_set (bit_of x) y.supervision.events) (link-done l (fill output) n) ∙ sent-same (fill_event l.transmitter.sent) (sent-bit x l.transmitter.sent))
      nothing (λ z. z) (λ z. z)
  done-bit (read pool descriptors slot) n = same_bit x p.history l (answer l (read pool descriptors slot)).link refl nothing (λ z. z) (λ z. z)
  done-bit (reads_number pool descriptors slot) n = same_bit x p.history l (answer l (reads_number pool descriptors slot)).link refl nothing (λ z. z) (λ z. z)
  done-bit (hand_back pool descriptors slot) n =
      same_bit x p.history l (answer l (hand_back pool descriptors slot)).link (ap (λ (y : Link). bit_set (bit_of x) y.supervision.events) (link-done l (hand_back pool descriptors slot) n)) nothing (λ z. z) (λ z. z)
  done-bit (wipe octets words) n = (λ q. absurd (no_bits x q), ⊎_elim absurd (λ m. absurd (m.0 tt)))

  next_bit : (c : Call) → After x p.history (action_of (front_of l) c) l (answer l c).link
  next_bit c = go (eqb (number_of (front_of l) c) 0) refl
    where
      same : first (faults l c) ≡ number_of (front_of l) c
      same = sym (number_is l c) ∙ answered-so l p c h ∙ ap (λ (f : Front). number_of f c) h.front

      go : (b : Bool) → eqb (number_of (front_of l) c) 0 ≡ b → After x p.history (cond b (action_done (front_of l) c) nothing) l (answer l c).link
      go true e = done-bit c (same ∙ eqb-true _ _ e)
      go false e =
          same_bit x p.history l (answer l c).link (ap (λ (y : Link). bit_set (bit_of x) y.supervision.events) (link-refused l c (λ z. eqb-false _ _ e (sym same ∙ z))))
          nothing (λ z. z) (λ z. z)

  pub bit-next : (c : Call) → After x p.history (action_of p.front c) l (answer l c).link
  bit-next c = subst (λ (f : Front). After x p.history (action_of f c) l (answer l c).link) (sym h.front) (next_bit c)

-- ---- the event bit after a list of calls
new-bit : (x : ErrorMonitor) → Bit x (link_after []) → ⊥
unfolding link_after
new-bit x q = no_bits x q

bit-law : (x : ErrorMonitor) (cs : List Call) → Bit x (link_after cs) ↔ Stands x cs
bit-law x =
    by_last (λ cs. Bit x (link_after cs) ↔ Stands x cs) ((λ q. absurd (new-bit x q)), (λ s. absurd (never-yet x (Clears x) s)))
    (λ cs c ih.
    let w = bit-next x (link_after cs) (past_after cs) (holds_after cs) c in
    subst (λ (l : Link). Bit x l ↔ Stands x (cs ++ (c ∷ []))) (sym (link-last cs c)) (
      (λ q. ⊎_elim (λ n. came-now x (Clears x) cs c n) (λ n. kept_on x (Clears x) cs c (ih.0 n.1) n.0) (w.0 q)),
      (λ s. w.1 (⊎_elim inl (λ n. inr (n.0, ih.1 n.1)) (taken_back x (Clears x) cs c s))),
    ))

-- ---- sixty-five in a row
-- the place of an event among what a call brings
thing-of : (hs : List Happening) (j : ℕ) → j < length (events hs) → (k : ℕ) × (is_event hs k ≡ true) × (length (events (take k hs)) ≡ j)
thing-of [] j q = absurd (omega arith)
thing-of (h ∷ hs) j q = go h.event refl j q (thing-of hs)
  where
    go : (b : Bool) → h.event ≡ b → (j : ℕ) → j < length (cond b (h.errored ∷ events hs) (events hs))
        → ((i : ℕ) → i < length (events hs) → (k : ℕ) × (is_event hs k ≡ true) × (length (events (take k hs)) ≡ i))
        → (k : ℕ) × (is_event (h ∷ hs) k ≡ true) × (length (events (take k (h ∷ hs))) ≡ j)
    go true e zero q ih = (0, e, refl)
    go true e (suc j) q ih = let r = ih j (omega arith) in (suc r.0, r.1, rw e (ap suc r.2))
    go false e j q ih = let r = ih j q in (suc r.0, r.1, rw e r.2)

no_start : {x : ErrorMonitor} {h : List Bool} → stopped ≡ started x h → ⊥
no_start q = cc

abbrev NamedIn : History → List Bool → ℕ → Type 0
NamedIn p h m = First (threshold_of suerm p.limits) (rule_of suerm p.limits) h m

abbrev Came : List Call → Type 0
Came = AlarmCame suerm Ends

-- an event that the law names, of the events since the start, is one at which the alarm came
abbrev Named-came : List Call → Type 0
Named-came cs =
    (h : List Bool) (m : ℕ) → (past_after cs).history.since ≡ started suerm h → m ≤ length h → NamedIn (past_after cs).history h m → Came cs

brought-came : (cs : List Call) (c : Call) (hs : List Happening) → action_of (past_after cs).front c ≡ brings hs → Named-came cs
    → (s : Since) → (past_after cs).history.since ≡ s → (h : List Bool) (m : ℕ) → with_events s (events hs) ≡ started suerm h → m ≤ length h
    → NamedIn (past_after cs).history h m → Came (cs ++ (c ∷ []))
brought-came cs c hs act ih stopped e h m q b n = absurd (no_start q)
brought-came cs c hs act ih (started y h₀) e h m q b n = go (dec_le m (length h₀))
  where
    p : History
    p = (past_after cs).history

    whole : h ≡ h₀ ++ events hs
    whole = cc

    which : y ≡ suerm
    which = cc

    was : p.since ≡ started suerm h₀
    was = e ∙ ap (λ (z : ErrorMonitor). started z h₀) which

    n' : NamedIn p (h₀ ++ events hs) m
    n' = subst (λ (l : List Bool). NamedIn p l m) whole n

    go : Dec (m ≤ length h₀) → Came (cs ++ (c ∷ []))
    go (yes d) =
        kept_on suerm Ends cs c (ih h₀ m was d ((first-grown (threshold_of suerm p.limits) (rule_of suerm p.limits) h₀ (events hs) m d).1 n'))
        (λ o. subst Ends act o)
    go (no d) =
        let fits = ap length whole ∙ length-append h₀ (events hs) in
        let at = thing-of hs (m - suc (length h₀)) (omega arith) in
        let here : m ≡ suc (length h₀ + length (events (take at.0 hs))) = omega (arith, at.2) in
        came-now suerm Ends cs c
        (subst (AlarmIn suerm p) (sym act)
        (at.0, record { earlier = h₀; running = was; event = at.1; first = subst (λ (k : ℕ). NamedIn p (h₀ ++ events hs) k) here n' }))

one-more-came : (cs : List Call) (c : Call) → Named-came cs → Named-came (cs ++ (c ∷ []))
one-more-came cs c ih h m q b n =
    go (action_of (past_after cs).front c) refl
    (ap (λ (p : Past). p.history.since) (sym (past-last cs c)) ∙ q) (subst (λ (p : Past). NamedIn p.history h m) (past-last cs c) n)
  where
    go : (d : Action) → action_of (past_after cs).front c ≡ d → (history_next (past_after cs).history (action_of (past_after cs).front c)).since ≡ started suerm h
        → NamedIn (history_next (past_after cs).history (action_of (past_after cs).front c)) h m → Came (cs ++ (c ∷ []))
    go (books l) e s n = absurd (no_start (rw e at s))
    go (brings hs) e s n =
        brought-came cs c hs e ih (past_after cs).history.since refl h m (rw e at s) b (rw e at n)
    go (starts y) e s n =
        let t : started y [] ≡ started suerm h = rw e at s in
        let z : h ≡ [] = cc in
        let k : length h ≡ 0 = ap length z in
        absurd (omega (arith, k, n.reaches.from_one, n.reaches.ends_at))
    go stops e s n = absurd (no_start (rw e at s))
    go wipes e s n = absurd (no_start (rw e at s))
    go nothing e s n = kept_on suerm Ends cs c (ih h m (rw e at s) b (rw e at n)) (λ o. subst Ends e o)
    go (clears chosen) e s n = kept_on suerm Ends cs c (ih h m (rw e at s) b (rw e at n)) (λ o. subst Ends e o)

none_came : Named-came []
unfolding past_after
none_came h m q b n = absurd (no_start q)

named-came : (cs : List Call) → Named-came cs
named-came = by_last Named-came none_came one-more-came

-- errored events are there
there : (h : List Bool) (i : ℕ) → AllErrored h i 65 → i + 65 ≤ length h
there h i all = go (dec_le (i + 65) (length h))
  where
    go : Dec (i + 65 ≤ length h) → i + 65 ≤ length h
    go (yes d) = d
    go (no d) =
        let e = all (suc (i + 64)) (omega arith) (omega arith) in
        let z = get_or-eq_default h false {n = i + 64} (omega arith) in
        absurd (false≢true (sym z ∙ e))

pub demand-3 : Demand3
demand-3 =
    record {
      answered = λ cs c. answered-so (link_after cs) (past_after cs) c (holds_after cs);
      octet-13 = λ x cs octets pool descriptors records k. octet-here x (link_after cs) (past_after cs) (holds_after cs) octets pool descriptors records k;
      event-bit = bit-law;
      never-65 = λ cs h i s t d all.
          let w = sixty-five h i all in
          named-came cs h w.0 s (omega (arith, w.1, there h i all))
          (subst (λ (D : ℕ). First (past_after cs).history.limits.t (failures D) h w.0) (sym d) (subst (λ (T : ℕ). First T (failures 256) h w.0) (sym t) w.2));
    }
