-- One bench: what a call of its own leaves alone, what a command does, and what a line octet brings.
use Prim.Native.Nat.{ℕ, ◌*◌}
use mathlib.Core.Path.{◌≡◌, refl, sym, ap, ◌∙◌}
use mathlib.Core.Bool.{Bool, true, false, cond}
use mathlib.Core.List.{List, [], ◌∷◌, ◌++◌, map}
use native.Mathlib.Omega.{arith}
use lib.Dec.{eqb}
use lib.ListN.{length}
use borrow.Author.Tests.{eqb-true, eqb-false}
use Rattle.std.specs.Prelude.{Option, Some, None}
use Rattle.bits.specs.Machine.{run, outs}
use Rattle.monitor.specs.Monitor.{stopped}
use Rattle.monitor.specs.History.{monitor_after}
use Rattle.board.specs.declared.Settings.{Settings}
use Rattle.board.specs.declared.Supervision.{Supervision}
use Rattle.board.specs.declared.Link.{Link}
use Rattle.board.specs.Limits.{monitor_limits}
use Rattle.records.specs.declared.Happening.{Happening}
use Rattle.records.specs.Record.{records_of}
use Rattle.records.specs.Promises.{FirstFive}
use Rattle.units.specs.Indications.{Indication, line_receiver, line_indications}
use Rattle.units.specs.Units.{unit_memory}
use Rattle.reception.specs.Line.{Board, board_after, line_happenings, line_records}
use Rattle.reception.proofs.Octets.{happenings-five}
use Rattle.link.specs.declared.Command.{Command}
use Rattle.link.specs.declared.Command.TheVariants.{MonitorOff, StartFailure, StartAlignment, MustHandOver, CountOctets}
use Rattle.link.specs.Commands.{command_of, is_unknown, obeyed, obeying}
use Rattle.link.specs.Refusals.{first}
use Rattle.link.specs.Held.{Held}
use Rattle.input.specs.Receive.{ReceiveOutcome, received, receive_answer}
use Rattle.input.specs.Promises.{written}
use Rattle.input.proofs.Cutting.{answered, wrote}
use Rattle.readback.specs.Using.{InUse}
use Rattle.readback.specs.Feeding.{Feed}
use Rattle.readback.proofs.Using.{lent, taken}
use Rattle.readback.proofs.Feeding.{can-receive, board-fed}
use Rattle.calls.specs.Call.{Call, opens, receive, command, clear, send, fill, read, reads_number, hand_back, wipe, answer, faults}
use Rattle.calls.specs.Lending.{Lent}
use Rattle.promises.specs.History.{Front, number_of, brought, front_next, events, Past, past_next}
use Rattle.promises.proofs.Answering.{number_is, link_done, link-done, link-refused}
use Rattle.promises.proofs.Holding.{front_of, Holds, answered-so, holds-next, supervised-monitor, supervision-is}
use Rattle.bookings.specs.Booking.{Booking, booking_done, Course, course_next}
use Rattle.benches.specs.Benches.{Own, records_seen, seen_in, line_of}
use Rattle.benches.proofs.Shown.{Core, core_of, plain, core_next, core_out, core-after, plain-happened}

-- an open link that a list of calls left, with these settings, and its course
pub record Bench (s : Settings) (l : Link) (x : Course) : Type 0 where
  pub opened : l.opened ≡ true
  pub settings : l.settings ≡ s
  pub past : Past
  pub holds : Holds l past
  pub front : x.front ≡ past.front

-- the link after a call
abbrev pub after : Link → Call → Link
after l c = (answer l c).link

-- ---- commands
pub obeyed-same : (c : Option Command) (l : Link) → ((obeying c l).opened ≡ l.opened) × ((obeying c l).settings ≡ l.settings) × ((front_of (obeying c l)).receiver ≡ (front_of l).receiver)
unfolding obeyed
obeyed-same (Some MonitorOff) l = (refl, refl, refl)
obeyed-same (Some StartFailure) l = (refl, refl, refl)
obeyed-same (Some StartAlignment) l = (refl, refl, refl)
obeyed-same (Some MustHandOver) l = (refl, refl, refl)
obeyed-same (Some CountOctets) l = (refl, refl, refl)
obeyed-same None l = (refl, refl, refl)

-- a command does the same to two links that show the same
pub obeyed-alike : (c : Option Command) (l k : Link) → core_of l.units ≡ core_of k.units → l.supervision.monitor ≡ k.supervision.monitor
    → (core_of (obeying c l).units ≡ core_of (obeying c k).units) × ((obeying c l).supervision.monitor ≡ (obeying c k).supervision.monitor)
unfolding obeyed
obeyed-alike (Some MonitorOff) l k u m = (u, ap stopped m)
obeyed-alike (Some StartFailure) l k u m = (u, refl)
obeyed-alike (Some StartAlignment) l k u m = (u, refl)
obeyed-alike (Some MustHandOver) l k u m = (u, m)
obeyed-alike (Some CountOctets) l k u m = (ap (λ (c : Core). record { counting = record { on = true; left = c.counting.left }; good = c.good }) u, m)
obeyed-alike None l k u m = (u, m)

module _ (s : Settings) (l : Link) (x : Course) (b : Bench s l x) where
  pub bench-next : (c : Call) → (after l c).opened ≡ l.opened → (after l c).settings ≡ l.settings → Bench s (after l c) (course_next x c)
  bench-next c o e =
      record {
        opened = o ∙ b.opened;
        settings = e ∙ b.settings;
        past = past_next b.past c;
        holds = holds-next l b.past c b.holds;
        front = ap (λ (f : Front). front_next f c) b.front;
      }

  front-is : x.front ≡ front_of l
  front-is = b.front ∙ b.holds.front

  number-here : (c : Call) → number_of x.front c ≡ first (faults l c)
  number-here c = ap (λ (f : Front). number_of f c) b.front ∙ sym (answered-so l b.past c b.holds) ∙ number_is l c

  -- ---- a call of its own changes nothing that is shown, is no line and writes no record
  pub record Kept (c : Call) : Type 0 where
    pub front : front_of (after l c) ≡ front_of l
    pub monitor : (after l c).supervision.monitor ≡ l.supervision.monitor
    pub booking : (course_next x c).booking ≡ x.booking
    pub no_line : (cs : List Call) → line_of (c ∷ cs) ≡ line_of cs
    pub none_seen : seen_in l c ≡ []

  kept-done : (c : Call) → front_of (link_done l c) ≡ front_of l → (link_done l c).supervision.monitor ≡ l.supervision.monitor
      → booking_done x.front x.booking c ≡ x.booking → ((cs : List Call) → line_of (c ∷ cs) ≡ line_of cs) → seen_in l c ≡ [] → Kept c
  kept-done c f m k no_line none_seen =
      record {
        front = (fronts (eqb n 0) refl).0;
        monitor = (fronts (eqb n 0) refl).1;
        booking = bookings (eqb (number_of x.front c) 0);
        no_line = no_line;
        none_seen = none_seen;
      }
    where
      n : ℕ
      n = first (faults l c)

      fronts : (t : Bool) → eqb n 0 ≡ t → (front_of (after l c) ≡ front_of l) × ((after l c).supervision.monitor ≡ l.supervision.monitor)
      fronts true e = let q = link-done l c (eqb-true n 0 e) in (ap front_of q ∙ f, ap (λ (j : Link). j.supervision.monitor) q ∙ m)
      fronts false e = let q = link-refused l c (eqb-false n 0 e) in (ap front_of q, ap (λ (j : Link). j.supervision.monitor) q)

      bookings : (t : Bool) → cond t (booking_done x.front x.booking c) x.booking ≡ x.booking
      bookings true = k
      bookings false = refl

  -- a second open is refused
  open-refused : (r : Settings) (pool descriptors : List ℕ) → first (faults l (opens r pool descriptors)) ≡ 3
  unfolding first
  open-refused r pool descriptors = rw (b.holds.formed, b.opened)

  kept-open : (r : Settings) (pool descriptors : List ℕ) → Kept (opens r pool descriptors)
  unfolding line_of
  kept-open r pool descriptors =
      let c = opens r pool descriptors in
      let z = open-refused r pool descriptors in
      let q = link-refused l c (λ e. omega arith) in
      record {
        front = ap front_of q;
        monitor = ap (λ (j : Link). j.supervision.monitor) q;
        booking = ap (λ (n : ℕ). cond (eqb n 0) (booking_done x.front x.booking c) x.booking) (number-here c ∙ z);
        no_line = λ cs. refl;
        none_seen = refl;
      }

  pub own-kept : (c : Call) → Own c → Kept c
  unfolding line_of
  own-kept (opens r pool descriptors) o = kept-open r pool descriptors
  own-kept (receive octets pool descriptors records) o = absurd o
  own-kept (command n) o = absurd o
  own-kept (clear chosen) o = kept-done (clear chosen) refl refl refl (λ cs. refl) refl
  own-kept (send content output) o = kept-done (send content output) refl refl refl (λ cs. refl) refl
  own-kept (fill output) o = kept-done (fill output) refl refl refl (λ cs. refl) refl
  own-kept (read pool descriptors slot) o = kept-done (read pool descriptors slot) refl refl refl (λ cs. refl) refl
  own-kept (reads_number pool descriptors slot) o = kept-done (reads_number pool descriptors slot) refl refl refl (λ cs. refl) refl
  own-kept (hand_back pool descriptors slot) o = kept-done (hand_back pool descriptors slot) refl refl refl (λ cs. refl) refl
  own-kept (wipe octets words) o = absurd o

  pub own-next : (c : Call) → Own c → Bench s (after l c) (course_next x c)
  own-next c o =
      let k = own-kept c o in
      bench-next c (ap (λ (f : Front). f.opened) k.front) (ap (λ (f : Front). f.settings) k.front)

  -- ---- a command: one that is refused would do nothing
  pub told-link : (n : ℕ) → after l (command n) ≡ obeying (command_of n) l
  unfolding first
  told-link n = go (command_of n) refl
    where
      number : first (faults l (command n)) ≡ cond (is_unknown (command_of n)) 11 0
      number = rw (b.holds.formed, b.opened)

      go : (c : Option Command) → command_of n ≡ c → after l (command n) ≡ obeying (command_of n) l
      go (Some c) e = link-done l (command n) (number ∙ ap (λ (c : Option Command). cond (is_unknown c) 11 0) e)
      go None e =
          let eleven : first (faults l (command n)) ≡ 11 = number ∙ ap (λ (c : Option Command). cond (is_unknown c) 11 0) e in
          link-refused l (command n) (λ z. omega arith) ∙ sym (ap (λ (c : Option Command). obeying c l) e)

  pub told-next : (n : ℕ) → Bench s (after l (command n)) (course_next x (command n))
  told-next n =
      let q = told-link n in
      let k = obeyed-same (command_of n) l in
      bench-next (command n) (ap (λ (j : Link). j.opened) q ∙ k.0) (ap (λ (j : Link). j.settings) q ∙ k.1)

  pub told-booking : (n : ℕ)
      → ((course_next x (command n)).booking.octets ≡ x.booking.octets) × ((course_next x (command n)).booking.happened ≡ x.booking.happened)
  told-booking n = go (eqb (number_of x.front (command n)) 0)
    where
      go : (t : Bool) → let k : Booking = cond t (booking_done x.front x.booking (command n)) x.booking in (k.octets ≡ x.booking.octets) × (k.happened ≡ x.booking.happened)
      go true = (refl, refl)
      go false = (refl, refl)

  -- ---- line octets
  module _ (octets pool descriptors records : List ℕ) (t : Lent s.k octets pool descriptors records) where
    abbrev pub heard : Call
    heard = receive octets pool descriptors records

    abbrev S : Settings
    S = l.settings

    abbrev held : Held
    held = record { link = l; pool = pool; descriptors = descriptors }

    abbrev feed : Feed
    feed = record { octets = octets; records = records }

    slots : s.k ≡ S.k
    slots = ap (λ (r : Settings). r.k) (sym b.settings)

    used : InUse held
    used =
        record {
          opened = b.opened;
          formed = b.holds.formed;
          fits = lent S.k pool descriptors (t.slots ∙ ap (λ (k : ℕ). 280 * k) slots) (t.words ∙ ap (λ (k : ℕ). 2 * k) slots);
        }

    zero : (receive_answer l octets pool descriptors records).number ≡ 0
    zero = taken held feed used t.few t.room

    no-fault : first (faults l heard) ≡ 0
    no-fault = sym (number_is l heard) ∙ zero

    is-received : receive_answer l octets pool descriptors records ≡ received l octets pool descriptors records
    is-received = (answered l octets pool descriptors records zero).1

    pub line-next : Bench s (after l heard) (course_next x heard)
    line-next = bench-next heard (ap (λ (o : ReceiveOutcome). o.link.opened) is-received) (ap (λ (o : ReceiveOutcome). o.link.settings) is-received)

    -- what they bring
    abbrev pub indicated : List Indication
    indicated = line_indications S.m (front_of l).receiver octets

    abbrev pub things : List Happening
    things = brought (front_of l) octets pool descriptors

    pub line-receiver : (front_of (after l heard)).receiver ≡ line_receiver S.m (front_of l).receiver octets
    unfolding board_after
    line-receiver = ap (λ (k : Board). k.receiver) (board-fed held feed zero)

    pub line-monitor : (after l heard).supervision.monitor ≡ monitor_after (monitor_limits S) l.supervision.monitor (events things)
    line-monitor =
        ap (λ (v : Supervision). v.monitor) (supervision-is l b.past b.holds octets pool descriptors records zero no-fault)
        ∙ supervised-monitor (monitor_limits S) things l.supervision

    pub line-five : FirstFive things
    line-five = happenings-five S indicated (unit_memory l.units pool descriptors)

    line-booking : (course_next x heard).booking ≡ booking_done (front_of l) x.booking heard
    line-booking =
        ap (λ (n : ℕ). cond (eqb n 0) (booking_done x.front x.booking heard) x.booking) (number-here heard ∙ no-fault)
        ∙ ap (λ (f : Front). booking_done f x.booking heard) front-is

    pub line-octets : (course_next x heard).booking.octets ≡ x.booking.octets ++ octets
    line-octets = ap (λ (k : Booking). k.octets) line-booking

    pub line-happened : (course_next x heard).booking.happened ≡ x.booking.happened ++ things
    line-happened = ap (λ (k : Booking). k.happened) line-booking

    pub line-seen : seen_in l heard ≡ records_seen (length things) (records_of (monitor_limits S) l.supervision things)
    unfolding line_records line_happenings
    line-seen =
        ap (λ (o : ReceiveOutcome). records_seen o.count (written o)) is-received
        ∙ ap (records_seen (length things)) (wrote l octets pool descriptors records (can-receive held feed zero))

    module _ (orn-off : S.orn ≡ false) where
      pub line-core : core_of (after l heard).units ≡ run (core_next S.n S.itu) (core_of l.units) indicated
      unfolding board_after
      line-core =
          ap (λ (k : Board). core_of k.unit_memory.units) (board-fed held feed zero)
          ∙ core-after S orn-off indicated (unit_memory l.units pool descriptors)

      pub line_plain : map plain things ≡ outs (core_next S.n S.itu) (core_out S.n S.itu) (core_of l.units) indicated
      line_plain = plain-happened S orn-off indicated (unit_memory l.units pool descriptors)
