-- A link that a list of calls leaves is not malformed; its front is the history's, and its monitor follows the history's events.
use Prim.Native.Nat.{ℕ, ◌*◌, ◌≤◌}
use mathlib.Core.Path.{◌≡◌, refl, sym, ap, subst, ◌∙◌}
use mathlib.Core.Logic.{inl}
use mathlib.Core.Bool.{Bool, true, false, not, cond, false≢true}
use mathlib.Core.List.{List, [], ◌∷◌, ◌++◌, append_assoc, append-nil}
use native.Mathlib.Omega.{arith}
use lib.Dec.{eqb}
use lib.ListN.{length, replicate, length-replicate}
use borrow.Author.Tests.{eqb-true, eqb-false, ltb-false, not-false}
use Rattle.std.specs.Prelude.{Option, Some, None}
use Rattle.bits.proofs.Machines.{run-append}
use Rattle.readback.proofs.Sends.{sends-in-use}
use Rattle.transmission.proofs.Line.{few-two, two-kept}
use Rattle.transmission.proofs.Calls.{accepted}
use Rattle.transmission.specs.Transmission.{Sending, send as sending, fill as filling, answer as transmitted, sent_on, link_after as links_sent, Accepted, more as one-call}
use Rattle.output.specs.Output.{OutputOutcome}
use Rattle.board.specs.With.{with_reception, with_supervision}
use Rattle.board.specs.declared.UnitState.{UnitState}
use Rattle.monitor.specs.declared.Mode.{Mode}
use Rattle.readback.proofs.Using.{open-in-use, still-used, lent}
use Rattle.readback.proofs.Feeding.{can-receive, same-settings, board-fed}
use Rattle.readback.specs.Using.{InUse, Fitting, more, none as none-fitting, sent_held}
use Rattle.readback.specs.Feeding.{Feed}
use Rattle.reception.specs.Line.{Board, board_after, line_happenings}
use Rattle.input.proofs.Cutting.{answered}
use Rattle.input.proofs.Receiving.{Receivable}
use Rattle.input.specs.Receive.{ReceiveOutcome, received, receive_answer}
use Rattle.link.proofs.Kept.{opened}
use Rattle.link.specs.Held.{Held}
use Rattle.records.specs.declared.Noted.{Noted}
use Rattle.bits.specs.Format.{basic, least_content, most_content}
use Rattle.std.proofs.lemmas.Bool.{or_parts}
use Rattle.framing.specs.Representation.{decode}
use Rattle.monitor.specs.declared.Mode.TheVariants.{Off, Failure, Alignment, Idle}
use Rattle.monitor.specs.declared.Monitor.{Monitor}
use Rattle.monitor.specs.declared.Limits.{Limits}
use Rattle.monitor.specs.ErrorMonitors.{suerm, aerm}
use Rattle.monitor.specs.History.{OffOrIdle, monitor_after}
use Rattle.monitor.proofs.Alarms.{Follows, follows-start, follows-after, off-or-idle-stays}
use Rattle.board.specs.declared.Settings.{Settings}
use Rattle.board.specs.declared.Supervision.{Supervision}
use Rattle.board.specs.declared.Link.{Link}
use Rattle.board.specs.Limits.{monitor_limits, most_count}
use Rattle.board.specs.Link.{new_link, clear_area}
use Rattle.board.specs.Malformed.{malformed}
use Rattle.board.specs.InnerRanges.{SettingsInRange, WellFormed, CountInRange, MonitorInRange}
use Rattle.board.proofs.NewLink.{new-exactly}
use Rattle.board.proofs.Ranges.{well-formed, not-malformed}
use Rattle.records.specs.declared.Happening.{Happening}
use Rattle.records.specs.Record.{supervised, supervision_after}
use Rattle.records.proofs.Noting.{noted-event, noted-none}
use Rattle.link.specs.declared.Command.{Command}
use Rattle.link.specs.declared.Command.TheVariants.{MonitorOff, StartFailure, StartAlignment, MustHandOver, CountOctets}
use Rattle.link.specs.Refusals.{first, fault, Fault}
use Rattle.link.specs.Commands.{command_of, obeyed, obeying}
use Rattle.link.specs.Calls.{opened_link, Outcome, open_answer, without_bits}
use Rattle.link.proofs.Faults.{none}
use Rattle.calls.specs.Call.{Call, opens, receive, command, clear, send, fill, read, reads_number, hand_back, wipe, answer, link_after, faults}
use Rattle.promises.specs.History.{Front, link_of_front, number_of, front_done, front_next, nothing, command_action, action_done, action_of, events, Since, stopped, started, history_next, Past, new_past, past_next, past_after, with_events, brought}
use Rattle.promises.proofs.Answering.{number_is, link-done, link-refused}

-- ---- the monitor and the events of the history
abbrev pub Agrees : Limits → Since → Monitor → Type 0
Agrees l stopped m = OffOrIdle m
Agrees l (started x h) m = Follows x l h m

-- the front of a link
abbrev pub front_of : Link → Front
front_of l = record { opened = l.opened; settings = l.settings; receiver = decode l.line.state l.line.area; units = l.units }

pub record Holds (l : Link) (p : Past) : Type 0 where
  pub front : p.front ≡ front_of l
  pub formed : malformed l ≡ false
  pub last : length l.transmitter.last ≡ 2
  pub unset : l.opened ≡ false → l.supervision.events ≡ 0
  pub limits : l.opened ≡ true → p.history.limits ≡ monitor_limits l.settings
  pub monitor : Agrees p.history.limits p.history.since l.supervision.monitor

-- ---- a call's number
same_number : (l : Link) (c : Call) → malformed l ≡ false → first (faults l c) ≡ number_of (front_of l) c
unfolding first number_of
same_number l (opens s pool descriptors) e = rw e
same_number l (receive octets pool descriptors records) e = rw e
same_number l (command n) e = rw e
same_number l (clear chosen) e = rw e
same_number l (send content output) e = rw e
same_number l (fill output) e = rw e
same_number l (read pool descriptors slot) e = rw e
same_number l (reads_number pool descriptors slot) e = rw e
same_number l (hand_back pool descriptors slot) e = rw e
same_number l (wipe octets words) e = refl

pub answered-so : (l : Link) (p : Past) (c : Call) → Holds l p → (answer l c).number ≡ number_of p.front c
answered-so l p c h = number_is l c ∙ same_number l c h.formed ∙ ap (λ (f : Front). number_of f c) (sym h.front)

-- ---- a new link
new-formed : malformed new_link ≡ false
unfolding clear_area
new-formed = (new-exactly new_link (record { mask = refl; area = length-replicate {A = ℕ} 279 0; held = refl; last = refl }) refl).1 refl

pub holds-new : Holds new_link new_past
holds-new =
    record {
      front = refl;
      formed = new-formed;
      last = refl;
      unset = λ e. refl;
      limits = λ e. absurd (false≢true e);
      monitor = inl refl;
    }

holds-start : Holds (link_after []) (past_after [])
unfolding link_after past_after
holds-start = holds-new

-- ---- the monitor over what a call brings
pub supervised-monitor : (l : Limits) (hs : List Happening) (w : Supervision) → (supervision_after l w hs).monitor ≡ monitor_after l w.monitor (events hs)
unfolding supervision_after monitor_after
supervised-monitor l [] w = refl
supervised-monitor l (h ∷ hs) w = supervised-monitor l hs (supervised l w h) ∙ go h.event refl
  where
    go : (b : Bool) → h.event ≡ b
        → monitor_after l (supervised l w h).monitor (events hs) ≡ monitor_after l w.monitor (cond b (h.errored ∷ events hs) (events hs))
    go true e = ap (λ (n : Noted). monitor_after l n.supervision.monitor (events hs)) (noted-event l w h e)
    go false e = ap (λ (n : Noted). monitor_after l n.supervision.monitor (events hs)) (noted-none l w h e)

agrees_after : (l : Limits) (s : Since) (m : Monitor) (es : List Bool) → Agrees l s m → Agrees l (with_events s es) (monitor_after l m es)
agrees_after l stopped m es a = subst OffOrIdle (sym (off-or-idle-stays l m es a).0) a
agrees_after l (started x h) m es a = follows-after x l es h m a

-- ---- a call that is answered 0
abbrev then : Link → Past → Call → Past
then l p c = record { front = front_done (front_of l) c; history = history_next p.history (action_done (front_of l) c) }

abbrev Then : Link → Past → Call → Type 0
Then l p c = Holds (answer l c).link (then l p c)

module _ (l : Link) (p : Past) (h : Holds l p) where
  -- open
  then-opened : (s : Settings) (pool descriptors : List ℕ) → (open_answer l s pool descriptors).number ≡ 0 → Then l p (opens s pool descriptors)
  then-opened s pool descriptors z =
      let e : (open_answer l s pool descriptors).link ≡ opened_link s = ap (λ (o : Outcome). o.link) (opened l s pool descriptors z) in
      subst (λ (k : Link). Holds k (then l p (opens s pool descriptors))) (sym e)
      (record {
        front = refl;
        formed = subst (λ (k : Link). malformed k ≡ false) e (open-in-use l s pool descriptors z).formed;
        last = refl;
        unset = λ e. refl;
        limits = λ _. refl;
        monitor = inl refl;
      })

  -- receive
  module _ (octets pool descriptors records : List ℕ) (z : (receive_answer l octets pool descriptors records).number ≡ 0)
      (n : first (faults l (receive octets pool descriptors records)) ≡ 0) where
    abbrev held : Held
    held = record { link = l; pool = pool; descriptors = descriptors }

    abbrev feed : Feed
    feed = record { octets = octets; records = records }

    pub is_open : l.opened ≡ true
    is_open =
        let n1 = none _ _ _ (λ z. omega arith) n in
        not-false _ (none _ _ _ (λ z. omega arith) n1.1).0

    used : InUse held
    used =
        let n1 = none _ _ _ (λ z. omega arith) n in
        let n2 = none _ _ _ (λ z. omega arith) n1.1 in
        let n5 = none _ _ _ (λ z. omega arith) n2.1 in
        record { opened = not-false _ n2.0; formed = h.formed; fits = not-false _ n5.0 }

    pub can : Receivable l octets pool descriptors records
    can = can-receive held feed z

    same-link : receive_answer l octets pool descriptors records ≡ received l octets pool descriptors records
    same-link = (answered l octets pool descriptors records z).1

    pub line-limits : p.history.limits ≡ monitor_limits l.settings
    line-limits = h.limits is_open

    pub supervision-is : (receive_answer l octets pool descriptors records).link.supervision
        ≡ supervision_after (monitor_limits l.settings) l.supervision (brought (front_of l) octets pool descriptors)
    unfolding board_after line_happenings
    supervision-is = ap (λ (b : Board). b.supervision) (board-fed held feed z)

    then-received : Then l p (receive octets pool descriptors records)
    unfolding board_after
    then-received =
        let b = board-fed held feed z in
        let s = same-settings held feed z in
        let o = ap (λ (x : ReceiveOutcome). x.link.opened) same-link in
        let es = events (brought (front_of l) octets pool descriptors) in
        record {
          front = λ i. record { opened = sym o i; settings = sym s i; receiver = (sym b i).receiver; units = (sym b i).unit_memory.units };
          formed = (still-used held feed used can.few can.room).formed;
          last = ap (λ (x : ReceiveOutcome). length x.link.transmitter.last) same-link ∙ h.last;
          unset = λ e. absurd (false≢true (sym e ∙ o ∙ is_open));
          limits = λ _. line-limits ∙ ap monitor_limits (sym s);
          monitor =
              subst (Agrees p.history.limits (with_events p.history.since es))
              (ap (λ (x : Limits). monitor_after x l.supervision.monitor es) line-limits
              ∙ sym (supervised-monitor (monitor_limits l.settings) (brought (front_of l) octets pool descriptors) l.supervision)
              ∙ ap (λ (v : Supervision). v.monitor) (sym supervision-is))
              (agrees_after p.history.limits p.history.since l.supervision.monitor es h.monitor);
        }

-- ---- a link with other units or supervision, in range as before
count_small : (mode : Mode) (s : Settings) (c : ℕ) → SettingsInRange s → CountInRange s mode c → c ≤ most_count
count_small Failure s c r h = omega (arith, r.t)
count_small Alignment s c r h = omega (arith, r.a)
count_small Idle s c r h = h
count_small Off s c r h = h

still_formed : (l : Link) (u : UnitState) (v : Supervision) → u.counting.left ≡ l.units.counting.left → u.slots.next ≡ l.units.slots.next
    → MonitorInRange l.settings v.monitor → WellFormed l → WellFormed (with_reception l l.line u v)
still_formed l u v c n m w =
    record {
      area = w.area;
      settings = w.settings;
      run = w.run;
      bits = w.bits;
      idle = w.idle;
      counter = (omega (arith, w.counter.0), omega (arith, w.counter.1));
      monitor = m;
      next = omega (arith, w.next);
      waiting = w.waiting;
      unflagged = w.unflagged;
      wait = w.wait;
    }

obeyed-formed : (l : Link) (c : Option Command) → WellFormed l → WellFormed (obeying c l)
unfolding obeyed
obeyed-formed l (Some MonitorOff) w =
    still_formed l l.units _ refl refl
    (record { number = w.monitor.number; count = count_small l.supervision.monitor.mode l.settings l.supervision.monitor.count w.settings w.monitor.count }) w
obeyed-formed l (Some StartFailure) w =
    still_formed l l.units _ refl refl (record { number = omega (arith, w.settings.d.0); count = omega (arith, w.settings.t.0) }) w
obeyed-formed l (Some StartAlignment) w =
    still_formed l l.units _ refl refl (record { number = omega (arith, w.settings.d.0); count = omega (arith, w.settings.a.0) }) w
obeyed-formed l (Some MustHandOver) w = still_formed l _ l.supervision refl refl w.monitor w
obeyed-formed l (Some CountOctets) w = still_formed l _ l.supervision refl refl w.monitor w
obeyed-formed l None w = w

obeyed-open : (l : Link) (c : Option Command) → (obeying c l).opened ≡ l.opened
unfolding obeyed
obeyed-open l (Some MonitorOff) = refl
obeyed-open l (Some StartFailure) = refl
obeyed-open l (Some StartAlignment) = refl
obeyed-open l (Some MustHandOver) = refl
obeyed-open l (Some CountOctets) = refl
obeyed-open l None = refl

module _ (l : Link) (p : Past) (h : Holds l p) where
  -- command
  obeyed-holds : (c : Option Command) → l.opened ≡ true
      → Holds (obeying c l)
      (record {
        front = record { opened = l.opened; settings = l.settings; receiver = (front_of l).receiver; units = (obeying c (link_of_front (front_of l))).units };
        history = history_next p.history (command_action c);
      })
  unfolding obeyed
  obeyed-holds c o = go c (not-malformed (obeying c l) (obeyed-open l c ∙ o) (obeyed-formed l c (well-formed l o h.formed)))
    where
      go : (c : Option Command) → malformed (obeying c l) ≡ false
          → Holds (obeying c l)
          (record {
            front = record { opened = l.opened; settings = l.settings; receiver = (front_of l).receiver; units = (obeying c (link_of_front (front_of l))).units };
            history = history_next p.history (command_action c);
          })
      go (Some MonitorOff) f = record { front = refl; formed = f; last = h.last; unset = λ e. absurd (false≢true (sym e ∙ o)); limits = h.limits; monitor = inl refl }
      go (Some StartFailure) f = record { front = refl; formed = f; last = h.last; unset = λ e. absurd (false≢true (sym e ∙ o)); limits = h.limits; monitor = follows-start suerm p.history.limits }
      go (Some StartAlignment) f = record { front = refl; formed = f; last = h.last; unset = λ e. absurd (false≢true (sym e ∙ o)); limits = h.limits; monitor = follows-start aerm p.history.limits }
      go (Some MustHandOver) f = record { front = refl; formed = f; last = h.last; unset = λ e. absurd (false≢true (sym e ∙ o)); limits = h.limits; monitor = h.monitor }
      go (Some CountOctets) f = record { front = refl; formed = f; last = h.last; unset = λ e. absurd (false≢true (sym e ∙ o)); limits = h.limits; monitor = h.monitor }
      go None f = record { front = refl; formed = f; last = h.last; unset = λ e. absurd (false≢true (sym e ∙ o)); limits = h.limits; monitor = h.monitor }

  -- open, as the second fault of a table says
  second : (b : Bool) (fs : List Fault) → first (fault b 1 ∷ fault (not l.opened) 2 ∷ fs) ≡ 0 → l.opened ≡ true
  second b fs n =
      let n1 = none _ _ _ (λ z. omega arith) n in
      not-false _ (none _ _ _ (λ z. omega arith) n1.1).0

  then-obeyed : (k : ℕ) → first (faults l (command k)) ≡ 0 → Then l p (command k)
  then-obeyed k n = subst (λ (x : Link). Holds x (then l p (command k))) (sym (link-done l (command k) n)) (obeyed-holds (command_of k) (second _ _ n))

  -- clear
  then-cleared : (chosen : ℕ) → first (faults l (clear chosen)) ≡ 0 → Then l p (clear chosen)
  then-cleared chosen n =
      let o = second _ _ n in
      let w = well-formed l o h.formed in
      let v : Supervision = record { monitor = l.supervision.monitor; events = without_bits l.supervision.events chosen } in
      subst (λ (x : Link). Holds x (then l p (clear chosen))) (sym (link-done l (clear chosen) n))
      (record {
        front = refl;
        formed = not-malformed (with_supervision l v) o (still_formed l l.units v refl refl w.monitor w);
        last = h.last;
        unset = λ e. absurd (false≢true (sym e ∙ o));
        limits = h.limits;
        monitor = h.monitor;
      })

  -- send and fill
  module _ (s : Sending) (fits : Fitting s) (o : l.opened ≡ true) where
    abbrev lent-pool : Held
    lent-pool = record { link = l; pool = replicate (basic.slot * l.settings.k) 0; descriptors = replicate (2 * l.settings.k) 0 }

    in_use : InUse lent-pool
    in_use =
        record {
          opened = o;
          formed = h.formed;
          fits = lent l.settings.k _ _ (length-replicate {A = ℕ} (basic.slot * l.settings.k) 0) (length-replicate {A = ℕ} (2 * l.settings.k) 0);
        }

    sends : Accepted l (s ∷ []) × InUse (sent_held lent-pool (s ∷ []))
    sends = sends-in-use lent-pool (s ∷ []) h.last in_use (more fits none-fitting)

    then-sent : Holds (sent_on l s) (record { front = front_of l; history = p.history })
    unfolding links_sent
    then-sent =
        let a = sends.0 in
        let q = accepted l s (few-two l s h.last) (taken-number a) in
        let e = ap (λ (x : OutputOutcome). x.link) q.is in
        record {
          front = λ i. front_of (sym e i);
          formed = sends.1.formed;
          last = two-kept l s h.last q;
          unset = λ y. absurd (false≢true (sym y ∙ ap (λ (k : Link). k.opened) e ∙ o));
          limits = λ x. h.limits o ∙ ap (λ (k : Link). monitor_limits k.settings) (sym e);
          monitor = subst (λ (k : Link). Agrees p.history.limits p.history.since k.supervision.monitor) (sym e) h.monitor;
        }
      where
        taken-number : Accepted l (s ∷ []) → (transmitted l s).number ≡ 0
        taken-number (one-call z rest) = z

  send-fits : (content output : List ℕ) → first (faults l (send content output)) ≡ 0 → Fitting (sending content output) × (l.opened ≡ true)
  send-fits content output n =
      let n1 = none _ _ _ (λ z. omega arith) n in
      let n2 = none _ _ _ (λ z. omega arith) n1.1 in
      let n9 = none _ _ _ (λ z. omega arith) n2.1 in
      let n10 = none _ _ _ (λ z. omega arith) n9.1 in
      let c = or_parts _ _ n10.0 in (
        (ltb-false (length content) (least_content basic) c.0, ltb-false (most_content basic) (length content) c.1, ltb-false (length output) basic.output n9.0),
        not-false _ n2.0,
      )

  fill-fits : (output : List ℕ) → first (faults l (fill output)) ≡ 0 → Fitting (filling output) × (l.opened ≡ true)
  fill-fits output n =
      let n1 = none _ _ _ (λ z. omega arith) n in
      let n2 = none _ _ _ (λ z. omega arith) n1.1 in
      let n9 = none _ _ _ (λ z. omega arith) n2.1 in
      (ltb-false (length output) basic.output n9.0, not-false _ n2.0)

  -- the link as it was
  then_same : (k : Link) → k ≡ l → Holds k (record { front = front_of l; history = p.history })
  then_same k e =
      subst (λ (x : Link). Holds x (record { front = front_of l; history = p.history })) (sym e)
      (record { front = refl; formed = h.formed; last = h.last; unset = h.unset; limits = h.limits; monitor = h.monitor })

  then-done : (c : Call) → first (faults l c) ≡ 0 → Then l p c
  then-done (opens s pool descriptors) n = then-opened l p h s pool descriptors (number_is l (opens s pool descriptors) ∙ n)
  then-done (receive octets pool descriptors records) n =
      then-received l p h octets pool descriptors records (number_is l (receive octets pool descriptors records) ∙ n) n
  then-done (command k) n = then-obeyed k n
  then-done (clear chosen) n = then-cleared chosen n
  then-done (send content output) n = let f = send-fits content output n in then-sent (sending content output) f.0 f.1
  then-done (fill output) n = let f = fill-fits output n in then-sent (filling output) f.0 f.1
  then-done (read pool descriptors slot) n = then_same l refl
  then-done (reads_number pool descriptors slot) n = then_same l refl
  then-done (hand_back pool descriptors slot) n = then_same _ (link-done l (hand_back pool descriptors slot) n)
  then-done (wipe octets words) n = record { front = refl; formed = new-formed; last = refl; unset = λ e. refl; limits = λ e. absurd (false≢true e); monitor = inl refl }

  -- ---- any call
  step : (c : Call) (b : Bool) → eqb (number_of (front_of l) c) 0 ≡ b
      → Holds (answer l c).link
      (record { front = cond b (front_done (front_of l) c) (front_of l); history = history_next p.history (cond b (action_done (front_of l) c) nothing) })
  step c true e = then-done c (same_number l c h.formed ∙ eqb-true _ _ e)
  step c false e = then_same _ (link-refused l c (λ z. eqb-false _ _ e (sym (same_number l c h.formed) ∙ z)))

pub holds-next : (l : Link) (p : Past) (c : Call) → Holds l p → Holds (answer l c).link (past_next p c)
holds-next l p c h =
    subst (λ (f : Front). Holds (answer l c).link (record { front = front_next f c; history = history_next p.history (action_of f c) })) (sym h.front)
    (step l p h c (eqb (number_of (front_of l) c) 0) refl)

-- ---- lists of calls
-- what holds of no calls, and of one call more at the end, holds of every list
pub by_last : (P : List Call → Type 0) → P [] → ((cs : List Call) (c : Call) → P cs → P (cs ++ (c ∷ []))) → (cs : List Call) → P cs
by_last P none_yet one_more cs = go [] cs none_yet
  where
    go : (done-so to-come : List Call) → P done-so → P (done-so ++ to-come)
    go done-so [] x = subst P (sym (append-nil done-so)) x
    go done-so (c ∷ to-come) x = subst P (append_assoc done-so (c ∷ []) to-come) (go (done-so ++ (c ∷ [])) to-come (one_more done-so c x))

pub link-last : (cs : List Call) (c : Call) → link_after (cs ++ (c ∷ [])) ≡ (answer (link_after cs) c).link
unfolding link_after
link-last cs c = run-append (λ l c. (answer l c).link) cs (c ∷ []) new_link

pub past-last : (cs : List Call) (c : Call) → past_after (cs ++ (c ∷ [])) ≡ past_next (past_after cs) c
unfolding past_after
past-last cs c = run-append past_next cs (c ∷ []) new_past

pub holds_after : (cs : List Call) → Holds (link_after cs) (past_after cs)
holds_after = by_last (λ cs. Holds (link_after cs) (past_after cs)) holds-none more-holds
  where
    holds-none : Holds (link_after []) (past_after [])
    holds-none = holds-start

    more-holds : (cs : List Call) (c : Call) → Holds (link_after cs) (past_after cs) → Holds (link_after (cs ++ (c ∷ []))) (past_after (cs ++ (c ∷ [])))
    more-holds cs c h =
        subst (λ (l : Link). Holds l (past_after (cs ++ (c ∷ [])))) (sym (link-last cs c))
        (subst (λ (p : Past). Holds (answer (link_after cs) c).link p) (sym (past-last cs c)) (holds-next (link_after cs) (past_after cs) c h))
