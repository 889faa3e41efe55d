-- Two benches that are given the same line and commands show the same.
use Prim.Native.Nat.{ℕ}
use mathlib.Core.Path.{◌≡◌, refl, sym, ap, ap₂, subst₂, ◌∙◌}
use mathlib.Core.Bool.{Bool, true, false, cond}
use mathlib.Core.List.{List, ◌∷◌, ◌++◌, map, append_assoc, append-nil}
use lib.Dec.{eqb}
use lib.ListN.{length}
use Rattle.bits.specs.Format.{basic}
use Rattle.bits.specs.Machine.{run, outs}
use Rattle.monitor.specs.History.{monitor_after}
use Rattle.board.specs.declared.Settings.{Settings}
use Rattle.board.specs.declared.Link.{Link}
use Rattle.board.specs.Limits.{monitor_limits}
use Rattle.board.specs.Link.{new_link}
use Rattle.board.specs.Malformed.{in_range}
use Rattle.records.specs.declared.Happening.{Happening}
use Rattle.records.specs.Record.{records_of}
use Rattle.units.specs.Indications.{Indication, line_receiver, line_indications}
use Rattle.link.specs.Commands.{command_of}
use Rattle.link.specs.Calls.{opened_link}
use Rattle.calls.specs.Call.{Call, receive, command, answer, link_after}
use Rattle.calls.specs.Lending.{opening, Lent}
use Rattle.promises.specs.History.{Front, new_front, number_of, events, new_past, past_next}
use Rattle.promises.proofs.Opening.{opening-link}
use Rattle.promises.proofs.Holding.{front_of, holds-new, holds-next}
use Rattle.bookings.specs.Booking.{Booking, new_booking, Course, course_next, course_after}
use Rattle.benches.specs.Benches.{SetAlike, Own, SameLine, none, line, told, first as own_IsFirst, second as own-second, records_seen, seen_in, seen, line_of, BenchesAlike}
use Rattle.benches.proofs.Shown.{Core, core_of, plain, core_next, core_out}
use Rattle.benches.proofs.Seen.{plain-events, events-append, seen_plain}
use Rattle.benches.proofs.Bench.{Bench, after, obeyed-same, obeyed-alike, own-kept, own-next, told-link, told-next, told-booking, line-next, indicated, things, line-receiver, line-monitor, line-five, line-octets, line-happened, line-seen, line-core, line_plain}

-- ---- two benches that show the same so far
record Both (s s' : Settings) (l : Link) (x : Course) (l' : Link) (x' : Course) : Type 0 where
  one : Bench s l x
  two : Bench s' l' x'
  receiver : (front_of l).receiver ≡ (front_of l').receiver
  core : core_of l.units ≡ core_of l'.units
  monitor : l.supervision.monitor ≡ l'.supervision.monitor
  same-events : events x.booking.happened ≡ events x'.booking.happened

abbrev link_from : Link → List Call → Link
link_from = run (λ l c. (answer l c).link)

abbrev booking_from : Course → List Call → Booking
booking_from x cs = (run course_next x cs).booking

abbrev seen_from : Link → List Call → List (List ℕ)
seen_from = outs (λ l c. (answer l c).link) seen_in

-- and what they show after further calls
record Then (l : Link) (x : Course) (l' : Link) (x' : Course) (cs ds : List Call) : Type 0 where
  taken : (booking_from x cs).octets ≡ x.booking.octets ++ line_of cs
  taken' : (booking_from x' ds).octets ≡ x'.booking.octets ++ line_of ds
  core : core_of (link_from l cs).units ≡ core_of (link_from l' ds).units
  monitor : (link_from l cs).supervision.monitor ≡ (link_from l' ds).supervision.monitor
  same-events : events (booking_from x cs).happened ≡ events (booking_from x' ds).happened
  records : seen_from l cs ≡ seen_from l' ds

module _ (s s' : Settings) (a : SetAlike s s') where
  module _ (l : Link) (x : Course) (l' : Link) (x' : Course) (b : Both s s' l x l' x') where
    abbrev S : Settings
    S = l.settings

    abbrev S' : Settings
    S' = l'.settings

    set-alike : SetAlike S S'
    set-alike = subst₂ SetAlike (sym b.one.settings) (sym b.two.settings) a

    -- ---- the same command
    both_told : (n : ℕ) → Both s s' (after l (command n)) (course_next x (command n)) (after l' (command n)) (course_next x' (command n))
    both_told n =
        let q = told-link s l x b.one n in
        let q' = told-link s' l' x' b.two n in
        let k = obeyed-alike (command_of n) l l' b.core b.monitor in
        record {
          one = told-next s l x b.one n;
          two = told-next s' l' x' b.two n;
          receiver =
              ap (λ (j : Link). (front_of j).receiver) q ∙ (obeyed-same (command_of n) l).2 ∙ b.receiver ∙ sym (obeyed-same (command_of n) l').2
              ∙ sym (ap (λ (j : Link). (front_of j).receiver) q');
          core = ap (λ (j : Link). core_of j.units) q ∙ k.0 ∙ sym (ap (λ (j : Link). core_of j.units) q');
          monitor = ap (λ (j : Link). j.supervision.monitor) q ∙ k.1 ∙ sym (ap (λ (j : Link). j.supervision.monitor) q');
          same-events = ap events (told-booking s l x b.one n).1 ∙ b.same-events ∙ sym (ap events (told-booking s' l' x' b.two n).1);
        }

    -- ---- the same line octets
    module _ (octets pool descriptors records pool' descriptors' records' : List ℕ) (t : Lent s.k octets pool descriptors records)
        (t' : Lent s'.k octets pool' descriptors' records') where
      abbrev call : Call
      call = receive octets pool descriptors records

      abbrev call' : Call
      call' = receive octets pool' descriptors' records'

      abbrev ms : List Indication
      ms = indicated s l x b.one octets pool descriptors records t

      abbrev ms' : List Indication
      ms' = indicated s' l' x' b.two octets pool' descriptors' records' t'

      abbrev hs : List Happening
      hs = things s l x b.one octets pool descriptors records t

      abbrev hs' : List Happening
      hs' = things s' l' x' b.two octets pool' descriptors' records' t'

      same-indicated : ms ≡ ms'
      same-indicated i = line_indications (set-alike.m i) (b.receiver i) octets

      limits : monitor_limits S ≡ monitor_limits S'
      limits i = record { t = set-alike.t i; d = set-alike.d i; a = set-alike.a i }

      same-plain : map plain hs ≡ map plain hs'
      same-plain =
          line_plain s l x b.one octets pool descriptors records t set-alike.orn-off
          ∙ (λ i. outs (core_next (set-alike.n i) (set-alike.itu i)) (core_out (set-alike.n i) (set-alike.itu i)) (b.core i) (same-indicated i))
          ∙ sym (line_plain s' l' x' b.two octets pool' descriptors' records' t' set-alike.orn-off')

      same-brought : events hs ≡ events hs'
      same-brought = sym (plain-events hs) ∙ ap events same-plain ∙ plain-events hs'

      same_seen : seen_in l call ≡ seen_in l' call'
      same_seen =
          line-seen s l x b.one octets pool descriptors records t
          ∙ seen_plain (monitor_limits S) hs l.supervision l.supervision (line-five s l x b.one octets pool descriptors records t) refl
          ∙ (λ i. records_seen (length (same-plain i)) (records_of (limits i) l.supervision (same-plain i)))
          ∙ sym (seen_plain (monitor_limits S') hs' l'.supervision l.supervision (line-five s' l' x' b.two octets pool' descriptors' records' t') (sym b.monitor))
          ∙ sym (line-seen s' l' x' b.two octets pool' descriptors' records' t')

      both-heard : Both s s' (after l call) (course_next x call) (after l' call') (course_next x' call')
      both-heard =
          record {
            one = line-next s l x b.one octets pool descriptors records t;
            two = line-next s' l' x' b.two octets pool' descriptors' records' t';
            receiver =
                line-receiver s l x b.one octets pool descriptors records t ∙ (λ i. line_receiver (set-alike.m i) (b.receiver i) octets)
                ∙ sym (line-receiver s' l' x' b.two octets pool' descriptors' records' t');
            core =
                line-core s l x b.one octets pool descriptors records t set-alike.orn-off
                ∙ (λ i. run (core_next (set-alike.n i) (set-alike.itu i)) (b.core i) (same-indicated i))
                ∙ sym (line-core s' l' x' b.two octets pool' descriptors' records' t' set-alike.orn-off');
            monitor =
                line-monitor s l x b.one octets pool descriptors records t ∙ (λ i. monitor_after (limits i) (b.monitor i) (same-brought i))
                ∙ sym (line-monitor s' l' x' b.two octets pool' descriptors' records' t');
            same-events =
                ap events (line-happened s l x b.one octets pool descriptors records t) ∙ events-append x.booking.happened hs
                ∙ (λ i. b.same-events i ++ same-brought i) ∙ sym (events-append x'.booking.happened hs')
                ∙ sym (ap events (line-happened s' l' x' b.two octets pool' descriptors' records' t'));
          }

    -- ---- a call that one of them makes on its own
    both_first : (c : Call) → Own c → Both s s' (after l c) (course_next x c) l' x'
    both_first c o =
        let k = own-kept s l x b.one c o in
        record {
          one = own-next s l x b.one c o;
          two = b.two;
          receiver = ap (λ (f : Front). f.receiver) k.front ∙ b.receiver;
          core = ap (λ (f : Front). core_of f.units) k.front ∙ b.core;
          monitor = k.monitor ∙ b.monitor;
          same-events = ap (λ (y : Booking). events y.happened) k.booking ∙ b.same-events;
        }

    both-second : (c : Call) → Own c → Both s s' l x (after l' c) (course_next x' c)
    both-second c o =
        let k = own-kept s' l' x' b.two c o in
        record {
          one = b.one;
          two = own-next s' l' x' b.two c o;
          receiver = b.receiver ∙ sym (ap (λ (f : Front). f.receiver) k.front);
          core = b.core ∙ sym (ap (λ (f : Front). core_of f.units) k.front);
          monitor = b.monitor ∙ sym k.monitor;
          same-events = b.same-events ∙ sym (ap (λ (y : Booking). events y.happened) k.booking);
        }

  -- ---- any calls
  -- line octets go behind those before them
  behind : (xs octets later : List ℕ) {ys : List ℕ} → ys ≡ xs ++ octets → ys ++ later ≡ xs ++ (octets ++ later)
  behind xs octets later e = ap (λ (zs : List ℕ). zs ++ later) e ∙ append_assoc xs octets later

  show-after : {cs ds : List Call} → SameLine s.k s'.k cs ds → (l : Link) (x : Course) (l' : Link) (x' : Course) → Both s s' l x l' x'
      → Then l x l' x' cs ds
  unfolding line_of
  show-after none l x l' x' b =
      record {
        taken = sym (append-nil x.booking.octets);
        taken' = sym (append-nil x'.booking.octets);
        core = b.core;
        monitor = b.monitor;
        same-events = b.same-events;
        records = refl;
      }
  show-after (line {cs} {ds} octets pool descriptors records pool' descriptors' records' t t' rest) l x l' x' b =
      let then = show-after rest _ _ _ _ (both-heard l x l' x' b octets pool descriptors records pool' descriptors' records' t t') in
      record {
        taken = then.taken ∙ behind x.booking.octets octets (line_of cs) (line-octets s l x b.one octets pool descriptors records t);
        taken' = then.taken' ∙ behind x'.booking.octets octets (line_of ds) (line-octets s' l' x' b.two octets pool' descriptors' records' t');
        core = then.core;
        monitor = then.monitor;
        same-events = then.same-events;
        records = ap₂ (λ (u v : List (List ℕ)). u ++ v) (same_seen l x l' x' b octets pool descriptors records pool' descriptors' records' t t') then.records;
      }
  show-after (told {cs} {ds} n rest) l x l' x' b =
      let then = show-after rest _ _ _ _ (both_told l x l' x' b n) in
      record {
        taken = then.taken ∙ ap (λ (u : List ℕ). u ++ line_of cs) (told-booking s l x b.one n).0;
        taken' = then.taken' ∙ ap (λ (u : List ℕ). u ++ line_of ds) (told-booking s' l' x' b.two n).0;
        core = then.core;
        monitor = then.monitor;
        same-events = then.same-events;
        records = then.records;
      }
  show-after (own_IsFirst {cs} {ds} c o rest) l x l' x' b =
      let k = own-kept s l x b.one c o in
      let then = show-after rest _ _ _ _ (both_first l x l' x' b c o) in
      record {
        taken = then.taken ∙ ap₂ (λ (y : Booking) (v : List ℕ). y.octets ++ v) k.booking (sym (k.no_line cs));
        taken' = then.taken';
        core = then.core;
        monitor = then.monitor;
        same-events = then.same-events;
        records = ap (λ (u : List (List ℕ)). u ++ seen_from (after l c) cs) k.none_seen ∙ then.records;
      }
  show-after (own-second {cs} {ds} c o rest) l x l' x' b =
      let k = own-kept s' l' x' b.two c o in
      let then = show-after rest _ _ _ _ (both-second l x l' x' b c o) in
      record {
        taken = then.taken;
        taken' = then.taken' ∙ ap₂ (λ (y : Booking) (v : List ℕ). y.octets ++ v) k.booking (sym (k.no_line ds));
        core = then.core;
        monitor = then.monitor;
        same-events = then.same-events;
        records = then.records ∙ sym (ap (λ (u : List (List ℕ)). u ++ seen_from (after l' c) ds) k.none_seen);
      }

-- ---- the opening
abbrev new_course : Course
new_course = record { front = new_front; booking = new_booking }

nothing_yet : (s : Settings) → (course_next new_course (opening s)).booking ≡ new_booking
nothing_yet s = go (eqb (number_of new_front (opening s)) 0)
  where
    go : (b : Bool) → cond b new_booking new_booking ≡ new_booking
    go true = refl
    go false = refl

opening-line : (s : Settings) (cs : List Call) → (course_next new_course (opening s)).booking.octets ++ line_of cs ≡ line_of (opening s ∷ cs)
unfolding line_of
opening-line s cs = ap (λ (b : Booking). b.octets ++ line_of cs) (nothing_yet s)

module _ (s : Settings) (r : in_range basic s ≡ true) where
  opened-is : after new_link (opening s) ≡ opened_link s
  opened-is = opening-link s r

  opened-bench : Bench s (after new_link (opening s)) (course_next new_course (opening s))
  opened-bench =
      record {
        opened = ap (λ (l : Link). l.opened) opened-is;
        settings = ap (λ (l : Link). l.settings) opened-is;
        past = past_next new_past (opening s);
        holds = holds-next new_link new_past (opening s) holds-new;
        front = refl;
      }

both-opened : (s s' : Settings) → in_range basic s ≡ true → in_range basic s' ≡ true → SetAlike s s'
    → Both s s' (after new_link (opening s)) (course_next new_course (opening s)) (after new_link (opening s')) (course_next new_course (opening s'))
both-opened s s' r r' a =
    let q = opened-is s r in
    let q' = opened-is s' r' in
    record {
      one = opened-bench s r;
      two = opened-bench s' r';
      receiver = ap (λ (l : Link). (front_of l).receiver) q ∙ sym (ap (λ (l : Link). (front_of l).receiver) q');
      core =
          ap (λ (l : Link). core_of l.units) q ∙ ap {B = Core} (λ n. record { counting = record { on = false; left = n }; good = 0 }) a.n
          ∙ sym (ap (λ (l : Link). core_of l.units) q');
      monitor = ap (λ (l : Link). l.supervision.monitor) q ∙ sym (ap (λ (l : Link). l.supervision.monitor) q');
      same-events = ap (λ (b : Booking). events b.happened) (nothing_yet s ∙ sym (nothing_yet s'));
    }

pub benches-alike : BenchesAlike
unfolding link_after course_after seen
benches-alike s s' cs ds r r' a same =
    let then = show-after s s' a same _ _ _ _ (both-opened s s' r r' a) in
    record {
      taken = then.taken ∙ opening-line s cs;
      taken' = then.taken' ∙ opening-line s' ds;
      good = ap (λ (c : Core). c.good) then.core;
      same-events = then.same-events;
      monitor = then.monitor;
      records = then.records;
    }
