-- The history of a booking: what holds of it at opening, and after each call.
use Prim.Native.Nat.{ℕ, suc, ◌+◌}
use mathlib.Core.Path.{◌≡◌, refl, sym, ap, ap₂, subst, ◌∙◌}
use mathlib.Core.Bool.{Bool, true, false, cond}
use mathlib.Core.List.{List, [], ◌∷◌, ◌++◌, map, map-append, append-nil}
use native.Mathlib.Omega.{arith}
use lib.Dec.{eqb}
use lib.ListN.{length}
use Rattle.std.specs.Prelude.{Option, Some, None}
use Rattle.bits.specs.Octets.{line_bits}
use Rattle.bits.specs.Format.{basic}
use Rattle.bits.specs.Machine.{run, outs}
use Rattle.bits.proofs.Machines.{run-append, outs-append}
use Rattle.bits.proofs.Lines.{line-append}
use Rattle.framing.specs.Delimitation.{Receiver, Finding, new_receiver, next, finds, receiver_after, findings}
use Rattle.filter.specs.declared.Fate.{Fate}
use Rattle.filter.specs.declared.Fate.TheVariants.{HandedOver, Dropped, Lost}
use Rattle.filter.specs.declared.Memory.{Memory}
use Rattle.filter.specs.Memory.{empty_memory}
use Rattle.filter.specs.History.{FilterInput, good, command-4, memory_next, fate_of, memory_after, fates}
use Rattle.board.specs.declared.Settings.{Settings}
use Rattle.board.specs.declared.Counts.{Counts}
use Rattle.board.specs.declared.Link.{Link}
use Rattle.board.specs.Link.{new_units}
use Rattle.units.specs.Indications.{Indication, line_indications}
use Rattle.units.specs.Units.{UnitMemory, unit_memory, counted, unit_memory_after, happenings}
use Rattle.link.specs.declared.Command.{Command}
use Rattle.link.specs.declared.Command.TheVariants.{MonitorOff, StartFailure, StartAlignment, MustHandOver, CountOctets}
use Rattle.link.specs.Commands.{command_of, obeyed, obeying}
use Rattle.calls.specs.Call.{Call, opens, receive, command, clear, send, fill, read, reads_number, hand_back, wipe, link_after}
use Rattle.promises.specs.History.{Front, new_front, link_of_front, number_of, front_done, brought}
use Rattle.promises.proofs.Holding.{front_of, by_last}
use Rattle.reception.proofs.Lines.{by_bits}
use Rattle.readback.proofs.Handing.{found_in, found-line}
use Rattle.bookings.specs.Booking.{Booking, new_booking, inputs_in, input_of_command, booking_done, Course, course_next, course_after, booking_after}
use Rattle.bookings.specs.History.{good_units, units_of, KindOrGood, shown, kinds_shown, fates_told, is_over, is_dropped, is_lost, how_many, round, fates_after, History, Histories}
use Rattle.bookings.proofs.Courses.{course-last, course-link}
use Rattle.bookings.proofs.Inputs.{kinds-append, fates-append, units-append, good-append, count_all, Tells, tells_all}

-- ---- what holds after each call
pub record Told (f : Front) (b : Booking) : Type 0 where
  pub receiver : f.receiver ≡ receiver_after f.settings.m new_receiver (line_bits b.octets)
  pub found : b.found ≡ findings f.settings.m new_receiver (line_bits b.octets)
  pub recorded : kinds_shown b.happened ≡ map shown b.found
  pub filtered : units_of b.inputs ≡ good_units b.found
  pub memory : f.units.memory ≡ memory_after basic f.settings.filter f.settings.mask b.inputs
  pub fated : fates_told b.happened ≡ fates basic f.settings.filter f.settings.mask b.inputs
  pub counts : f.units.counts ≡ count_all f.settings new_units.counts (fates_told b.happened)

told-new : Told new_front new_booking
unfolding line_bits kinds_shown units_of good_units memory_after fates fates_told
told-new = record { receiver = refl; found = refl; recorded = refl; filtered = refl; memory = refl; fated = refl; counts = refl }

told-opened : (f : Front) (s : Settings) (pool descriptors : List ℕ) → Told (front_done f (opens s pool descriptors)) new_booking
unfolding line_bits kinds_shown units_of good_units memory_after fates fates_told
told-opened f s pool descriptors = record { receiver = refl; found = refl; recorded = refl; filtered = refl; memory = refl; fated = refl; counts = refl }

-- ---- a receive
module _ (f : Front) (b : Booking) (t : Told f b) (octets pool descriptors : List ℕ) where
  abbrev M : ℕ
  M = f.settings.m

  abbrev o : UnitMemory
  o = unit_memory f.units pool descriptors

  abbrev ms : List Indication
  ms = line_indications M f.receiver octets

  abbrev ys : List FilterInput
  ys = inputs_in f.settings o ms

  said : Tells f.settings o (found_in ms) ys (unit_memory_after f.settings o ms) (happenings f.settings o ms)
  said = tells_all f.settings ms o

  abbrev fs : List Finding
  fs = findings M f.receiver (line_bits octets)

  all_found : found_in ms ≡ fs
  all_found = found-line M octets f.receiver

  told-received : (records : List ℕ) → Told (front_done f (receive octets pool descriptors records)) (booking_done f b (receive octets pool descriptors records))
  unfolding memory_after fates
  told-received records =
      record {
        receiver =
            by_bits M octets f.receiver ∙ ap (λ (r : Receiver). receiver_after M r (line_bits octets)) t.receiver
            ∙ sym (run-append (next M) (line_bits b.octets) (line_bits octets) new_receiver) ∙ ap (receiver_after M new_receiver) (sym (line-append b.octets octets));
        found =
            ap₂ (λ (x y : List Finding). x ++ y) t.found (ap (λ (r : Receiver). findings M r (line_bits octets)) t.receiver)
            ∙ sym (outs-append (next M) (finds M) (line_bits b.octets) (line_bits octets) new_receiver) ∙ ap (findings M new_receiver) (sym (line-append b.octets octets));
        recorded =
            kinds-append b.happened (brought f octets pool descriptors)
            ∙ ap₂ (λ (x y : List KindOrGood). x ++ y) t.recorded (said.recorded ∙ ap (map shown) all_found) ∙ sym (map-append shown b.found fs);
        filtered =
            units-append b.inputs ys
            ∙ ap₂ (λ (x y : List (List ℕ)). x ++ y) t.filtered (said.filtered ∙ ap good_units all_found) ∙ sym (good-append b.found fs);
        memory =
            said.memory ∙ ap (λ (m : Memory). run (memory_next basic f.settings.filter f.settings.mask) m ys) t.memory
            ∙ sym (run-append (memory_next basic f.settings.filter f.settings.mask) b.inputs ys (empty_memory basic));
        fated =
            fates-append b.happened (brought f octets pool descriptors)
            ∙ ap₂ (λ (x y : List Fate). x ++ y) t.fated
            (said.fated ∙ ap (λ (m : Memory). outs (memory_next basic f.settings.filter f.settings.mask) (fate_of basic f.settings.filter f.settings.mask) m ys) t.memory)
            ∙ sym (outs-append (memory_next basic f.settings.filter f.settings.mask) (fate_of basic f.settings.filter f.settings.mask) b.inputs ys (empty_memory basic));
        counts =
            said.counts ∙ ap (λ (c : Counts). count_all f.settings c (fates_told (brought f octets pool descriptors))) t.counts
            ∙ sym (run-append (λ c x. counted x c) (fates_told b.happened) (fates_told (brought f octets pool descriptors)) new_units.counts)
            ∙ ap (count_all f.settings new_units.counts) (sym (fates-append b.happened (brought f octets pool descriptors)));
      }

-- ---- a command
module _ (f : Front) (b : Booking) (t : Told f b) where
  abbrev front-told : Option Command → Front
  front-told c = record { opened = f.opened; settings = f.settings; receiver = f.receiver; units = (obeying c (link_of_front f)).units }

  abbrev booking-told : List FilterInput → Booking
  booking-told xs = record { octets = b.octets; found = b.found; inputs = b.inputs ++ xs; happened = b.happened }

  -- one that the filter does not see
  same_inputs : (c : Option Command) → (obeying c (link_of_front f)).units.memory ≡ f.units.memory → (obeying c (link_of_front f)).units.counts ≡ f.units.counts
      → Told (front-told c) (booking-told [])
  same_inputs c m n =
      subst (λ (xs : List FilterInput). Told (front-told c) (record { octets = b.octets; found = b.found; inputs = xs; happened = b.happened })) (sym (append-nil b.inputs))
      (record {
        receiver = t.receiver;
        found = t.found;
        recorded = t.recorded;
        filtered = t.filtered;
        memory = m ∙ t.memory;
        fated = t.fated;
        counts = n ∙ t.counts;
      })

  told-command : (c : Option Command) → Told (front-told c) (booking-told (input_of_command c))
  unfolding obeyed memory_after fates units_of
  told-command (Some MonitorOff) = same_inputs (Some MonitorOff) refl refl
  told-command (Some StartFailure) = same_inputs (Some StartFailure) refl refl
  told-command (Some StartAlignment) = same_inputs (Some StartAlignment) refl refl
  told-command (Some CountOctets) = same_inputs (Some CountOctets) refl refl
  told-command None = same_inputs None refl refl
  told-command (Some MustHandOver) =
      record {
        receiver = t.receiver;
        found = t.found;
        recorded = t.recorded;
        filtered = units-append b.inputs (command-4 ∷ []) ∙ append-nil (units_of b.inputs) ∙ t.filtered;
        memory = sym (run-append (memory_next basic f.settings.filter f.settings.mask) b.inputs (command-4 ∷ []) (empty_memory basic));
        fated =
            t.fated ∙ sym (append-nil (fates basic f.settings.filter f.settings.mask b.inputs))
            ∙ sym (outs-append (memory_next basic f.settings.filter f.settings.mask) (fate_of basic f.settings.filter f.settings.mask) b.inputs (command-4 ∷ []) (empty_memory basic));
        counts = t.counts;
      }

  -- ---- any call
  told-done : (c : Call) → Told (front_done f c) (booking_done f b c)
  told-done (opens s pool descriptors) = told-opened f s pool descriptors
  told-done (receive octets pool descriptors records) = told-received f b t octets pool descriptors records
  told-done (command n) = told-command (command_of n)
  told-done (clear chosen) = t
  told-done (send content output) = t
  told-done (fill output) = t
  told-done (read pool descriptors slot) = t
  told-done (reads_number pool descriptors slot) = t
  told-done (hand_back pool descriptors slot) = t
  told-done (wipe octets words) = told-new

  told-next : (c : Call) → let x = course_next (record { front = f; booking = b }) c in Told x.front x.booking
  told-next c = go (eqb (number_of f c) 0)
    where
      go : (z : Bool) → Told (cond z (front_done f c) f) (cond z (booking_done f b c) b)
      go true = told-done c
      go false = t

abbrev ToldAfter : List Call → Type 0
ToldAfter cs = Told (course_after cs).front (course_after cs).booking

told_none : ToldAfter []
unfolding course_after
told_none = told-new

pub told-after : (cs : List Call) → ToldAfter cs
told-after = by_last ToldAfter told_none one_more
  where
    one_more : (cs : List Call) (c : Call) → ToldAfter cs → ToldAfter (cs ++ (c ∷ []))
    one_more cs c t = subst (λ (x : Course). Told x.front x.booking) (sym (course-last cs c)) (told-next (course_after cs).front (course_after cs).booking t c)

-- ---- the counts are the numbers of fates, gone round
record Rounds (c : Counts) (a h d l : ℕ) : Type 0 where
  good : c.good ≡ round a
  over : c.over ≡ round h
  dropped : c.dropped ≡ round d
  lost : c.lost ≡ round l

rounds-as : (c : Counts) (a h d l a' h' d' l' : ℕ) → a ≡ a' → h ≡ h' → d ≡ d' → l ≡ l' → Rounds c a h d l → Rounds c a' h' d' l'
rounds-as c a h d l a' h' d' l' p q r t x = record { good = x.good ∙ ap round p; over = x.over ∙ ap round q; dropped = x.dropped ∙ ap round r; lost = x.lost ∙ ap round t }

rounds : (s : Settings) (fs : List Fate) (c : Counts) (a h d l : ℕ) → Rounds c a h d l
    → Rounds (count_all s c fs) (a + length fs) (h + how_many is_over fs) (d + how_many is_dropped fs) (l + how_many is_lost fs)
unfolding how_many
rounds s [] c a h d l r = rounds-as c a h d l _ _ _ _ (omega arith) (omega arith) (omega arith) (omega arith) r
rounds s (HandedOver ∷ fs) c a h d l r =
    rounds-as _ _ _ _ _ _ _ _ _ (omega arith) (omega arith) (omega arith) (omega arith)
    (rounds s fs (counted HandedOver c) (a + 1) (h + 1) d l (record { good = omega arith; over = omega arith; dropped = r.dropped; lost = r.lost }))
rounds s (Dropped ∷ fs) c a h d l r =
    rounds-as _ _ _ _ _ _ _ _ _ (omega arith) (omega arith) (omega arith) (omega arith)
    (rounds s fs (counted Dropped c) (a + 1) h (d + 1) l (record { good = omega arith; over = r.over; dropped = omega arith; lost = r.lost }))
rounds s (Lost ∷ fs) c a h d l r =
    rounds-as _ _ _ _ _ _ _ _ _ (omega arith) (omega arith) (omega arith) (omega arith)
    (rounds s fs (counted Lost c) (a + 1) h d (l + 1) (record { good = omega arith; over = r.over; dropped = r.dropped; lost = omega arith }))

-- each unit that goes to the filter has one fate
as_many : (on : Bool) (mask : List ℕ) (xs : List FilterInput) (m : Memory) → length (outs (memory_next basic on mask) (fate_of basic on mask) m xs) ≡ length (units_of xs)
unfolding units_of
as_many on mask [] m = refl
as_many on mask (good u free ∷ xs) m = ap suc (as_many on mask xs (memory_next basic on mask m (good u free)))
as_many on mask (command-4 ∷ xs) m = as_many on mask xs (memory_next basic on mask m command-4)

-- the three parts are all
parts : (fs : List Fate) → length fs ≡ how_many is_over fs + how_many is_dropped fs + how_many is_lost fs
unfolding how_many
parts [] = refl
parts (HandedOver ∷ fs) = omega (arith, parts fs)
parts (Dropped ∷ fs) = omega (arith, parts fs)
parts (Lost ∷ fs) = omega (arith, parts fs)

-- a sum goes round as its parts do
round-sum : (x y : ℕ) → round (x + y) ≡ round (round x + y)
round-sum x y = omega arith

round-three : (x y z : ℕ) → round (x + y + z) ≡ round (round x + round y + round z)
round-three x y z =
    round-sum (x + y) z ∙ ap (λ (n : ℕ). round (n + z)) (round-sum x y ∙ two (round x) y) ∙ sym (round-sum (round x + round y) z) ∙ two (round x + round y) z
  where
    two : (x y : ℕ) → round (x + y) ≡ round (x + round y)
    two x y = omega arith

-- ---- the theorem
module _ (cs : List Call) where
  abbrev l : Link
  l = link_after cs

  abbrev b : Booking
  b = booking_after cs

  told : Told (front_of l) b
  told = subst (λ (f : Front). Told f b) (course-link cs) (told-after cs)

  number-of-fates : length (fates_after cs) ≡ length (good_units b.found)
  unfolding fates
  number-of-fates = as_many l.settings.filter l.settings.mask b.inputs (empty_memory basic) ∙ ap length told.filtered

  counts-are : Rounds l.units.counts (length (fates_after cs)) (how_many is_over (fates_after cs)) (how_many is_dropped (fates_after cs)) (how_many is_lost (fates_after cs))
  counts-are =
      subst (λ (c : Counts). Rounds c (length (fates_after cs)) (how_many is_over (fates_after cs)) (how_many is_dropped (fates_after cs)) (how_many is_lost (fates_after cs)))
      (sym (told.counts ∙ ap (count_all l.settings new_units.counts) told.fated))
      (rounds-as _ _ _ _ _ _ _ _ _ (omega arith) (omega arith) (omega arith) (omega arith)
      (rounds l.settings (fates_after cs) new_units.counts 0 0 0 0 (record { good = refl; over = refl; dropped = refl; lost = refl })))

  pub history : History cs
  history =
      let r = counts-are in
      let p = parts (fates_after cs) in
      record {
        found = told.found;
        receiver = told.receiver;
        recorded = told.recorded;
        filtered = told.filtered;
        fated = told.fated;
        good = r.good ∙ ap round number-of-fates;
        over = r.over;
        dropped = r.dropped;
        lost = r.lost;
        sum =
            r.good ∙ ap round p ∙ round-three (how_many is_over (fates_after cs)) (how_many is_dropped (fates_after cs)) (how_many is_lost (fates_after cs))
            ∙ (λ i. round (sym r.over i + sym r.dropped i + sym r.lost i));
      }

pub histories : Histories
histories cs = history cs
