-- A line that is read with slots handed back between the calls: each call hands over the first of the units still to come.
use Prim.Native.Nat.{ℕ, ◌≤◌, ◌<◌}
use mathlib.Core.Path.{◌≡◌, refl, sym, ap, ap₂, subst, ◌∙◌}
use mathlib.Core.Bool.{Bool, true, false, cond}
use mathlib.Core.List.{List, [], ◌∷◌, ◌++◌}
use native.Mathlib.Omega.{arith}
use lib.Dec.{eqb}
use lib.ListN.{length, length-append, length-map}
use Rattle.bits.specs.Format.{basic}
use Rattle.memory.specs.declared.Status.TheVariants as statuses
use Rattle.board.specs.Limits.{monitor_limits}
use Rattle.bits.specs.Octets.{line_bits}
use Rattle.bits.specs.Machine.{run}
use Rattle.bits.proofs.Machines.{outs-append}
use Rattle.bits.proofs.Lines.{line-append}
use Rattle.framing.specs.Delimitation.{Receiver, Finding, closed, next, finds, receiver_after, findings}
use Rattle.framing.specs.Representation.{decode}
use Rattle.sending.specs.Stream.{stream_line}
use Rattle.sending.specs.Stuffing.{unit_bits}
use Rattle.memory.specs.Lent.{status_of, with_slot, with_descriptor, empty_slot, status_word}
use Rattle.monitor.specs.declared.Mode.TheVariants.{Off}
use Rattle.monitor.specs.declared.Monitor.{Monitor}
use Rattle.monitor.specs.Monitor.{started}
use Rattle.board.specs.declared.Settings.{Settings}
use Rattle.board.specs.declared.Link.{Link}
use Rattle.records.specs.declared.Happening.{Happening}
use Rattle.board.specs.declared.Supervision.{Supervision}
use Rattle.records.specs.Record.{supervision_after, records_of}
use Rattle.units.specs.Indications.{Indication, found, octet_end, line_indications}
use Rattle.units.specs.Units.{UnitMemory, next_unit_memory, happens, happenings}
use Rattle.units.proofs.UnitStates.{found-one}
use Rattle.reception.specs.Line.{Board, board_after, line_happenings, line_records}
use Rattle.link.specs.Refusals.{read_number}
use Rattle.link.specs.Calls.{Outcome, outcome, opened_link, hand_answer}
use Rattle.input.specs.Receive.{ReceiveOutcome}
use Rattle.link.proofs.Kept.{opened}
use Rattle.input.proofs.Cutting.{answered}
use Rattle.link.specs.Held.{Held, handed_back}
use Rattle.readback.specs.Feeding.{board, Feed, answer, fed, wrote}
use Rattle.readback.specs.SlotRing.{SlotRing, ring_with, ring_after, ring_records}
use Rattle.readback.specs.Streams.{AllAllowed, closed_out, none as none_allowed, more as more-allowed}
use Rattle.readback.specs.Rounds.{Round, round_done, octets_of_rounds, Roomy, none, more, ring_of, HandsOver, StreamRounds}
use Rattle.reception.proofs.Lines.{by_bits}
use Rattle.readback.proofs.Feeding.{can-receive, same-settings, board-fed, records-wrote}
use Rattle.readback.proofs.Pieces.{stream-found, found as closings}
use Rattle.readback.proofs.Handing.{found_in, found-line, Free, Handed, handeds, all-handed, unsupervised, handed-records, handed-unsupervised, ring_of as ring_of_units}
use Rattle.readback.proofs.Stream.{fresh, closed-allowed}

-- ---- findings in two parts are those of units in two parts
pub record Parted (us : List (List ℕ)) (xs ys : List Finding) : Type 0 where
  pub early : List (List ℕ)
  pub late : List (List ℕ)
  pub is : us ≡ early ++ late
  pub first : xs ≡ closings early
  pub rest : ys ≡ closings late

one-parted : (u : List ℕ) (us : List (List ℕ)) (x : Finding) (xs ys : List Finding) → x ≡ closed (unit_bits u) → Parted us xs ys
    → Parted (u ∷ us) (x ∷ xs) ys
one-parted u us x xs ys e p =
    record {
      early = u ∷ p.early;
      late = p.late;
      is = ap {B = List (List ℕ)} (λ l. u ∷ l) p.is;
      first = ap₂ {C = List Finding} (λ y l. y ∷ l) e p.first;
      rest = p.rest;
    }

parted : (us : List (List ℕ)) (xs ys : List Finding) → xs ++ ys ≡ closings us → Parted us xs ys
parted us [] ys e = record { early = []; late = us; is = refl; first = refl; rest = e }
parted [] (x ∷ xs) ys e = cc
parted (u ∷ us) (x ∷ xs) ys e = one-parted u us x xs ys (cc) (parted us xs ys (cc))

pub closings-length : (us : List (List ℕ)) → length (closings us) ≡ length us
closings-length us = length-map us _

pub both-allowed : (M : ℕ) (us vs : List (List ℕ)) → AllAllowed M (us ++ vs) → AllAllowed M us × AllAllowed M vs
both-allowed M [] vs a = (none_allowed, a)
both-allowed M (u ∷ us) vs (more-allowed a rest) = let p = both-allowed M us vs rest in (more-allowed a p.0, p.1)

-- ---- each finding brings a happening
found-happen : (s : Settings) (ms : List Indication) (o : UnitMemory) → length (found_in ms) ≤ length (happenings s o ms)
unfolding happenings
found-happen s [] o = omega arith
found-happen s (found f ∷ ms) o =
    omega (
      arith,
      found-happen s ms (next_unit_memory s o (found f)),
      found-one s o f,
      length-append (happens s o (found f)) (happenings s (next_unit_memory s o (found f)) ms),
    )
found-happen s (octet_end ∷ ms) o =
    omega (
      arith,
      found-happen s ms (next_unit_memory s o octet_end),
      length-append (happens s o octet_end) (happenings s (next_unit_memory s o octet_end) ms),
    )

-- as many as the units handed over
handed-count : (k : ℕ) (us : List (List ℕ)) (x : SlotRing) → length (handeds k x us) ≡ length us
handed-count k [] x = refl
handed-count k (u ∷ us) x = omega (arith, handed-count k us (ring_with k x u))

-- ---- slots handed back: the link stays
pub hand-link : (h : Held) (slot : ℕ) → (handed_back h slot).link ≡ h.link
unfolding hand_answer
hand-link h slot = go (eqb (read_number h.link h.pool h.descriptors slot) 0)
  where
    go : (b : Bool)
        → (cond b (outcome 0 h.link (with_slot basic h.pool slot (empty_slot basic)) (with_descriptor h.descriptors slot (status_word statuses.Empty) 0))
        (outcome (read_number h.link h.pool h.descriptors slot) h.link h.pool h.descriptors)).link ≡ h.link
    go true = refl
    go false = refl

pub hand-links : (slots : List ℕ) (h : Held) → (run handed_back h slots).link ≡ h.link
hand-links [] h = refl
hand-links (slot ∷ slots) h = hand-links slots (handed_back h slot) ∙ hand-link h slot

-- ---- a link that reads a line: the bits to come bring these units
pub record Reads (l : Link) (bits : List Bool) (us : List (List ℕ)) : Type 0 where
  pub off : l.settings.filter ≡ false
  pub still : l.units.counting.on ≡ false
  pub monitor : l.supervision.monitor ≡ started Off
  pub allowed : AllAllowed l.settings.m us
  pub coming : findings l.settings.m (decode l.line.state l.line.area) bits ≡ closings us

-- all slots of the ring
every-free : (k n : ℕ) (x : SlotRing) → n ≤ k → x.next < k → ((slot : ℕ) → slot < k → status_of x.descriptors slot ≡ status_word statuses.Empty) → Free k n x
every-free k n x few below e =
    record { few = few; below = λ l. below; ahead = λ j l h m. e j m; round = λ j h. e j (omega arith) }

-- ---- one call
-- what it hands over, and what is still to come after it
pub record Called (h : Held) (f : Feed) (later : List Bool) (us vs : List (List ℕ)) : Type 0 where
  pub few : length us ≤ h.link.settings.k
  pub count : (answer h f).count ≡ length us
  pub records : wrote h f ≡ ring_records h.link.settings.k (ring_of h) us
  pub ring : ring_of (fed h f) ≡ ring_after h.link.settings.k (ring_of h) us
  pub goes_on : Reads (fed h f).link later vs

module _ (h : Held) (f : Feed) (z : (answer h f).number ≡ 0) where
  abbrev S : Settings
  S = h.link.settings

  abbrev R : Receiver
  R = (board h).receiver

  abbrev O : UnitMemory
  O = (board h).unit_memory

  abbrev indications : List Indication
  indications = line_indications S.m R f.octets

  -- what the call finds, and what is found later
  abbrev pub Parts : List Bool → List (List ℕ) → Type 0
  Parts later ws = Parted ws (findings S.m R (line_bits f.octets)) (findings S.m (receiver_after S.m R (line_bits f.octets)) later)

  pub parts : (xs : List ℕ) (ws : List (List ℕ)) → Reads h.link (line_bits (f.octets ++ xs)) ws → Parts (line_bits xs) ws
  parts xs ws r =
      parted ws (findings S.m R (line_bits f.octets)) (findings S.m (receiver_after S.m R (line_bits f.octets)) (line_bits xs))
      (sym (outs-append (next S.m) (finds S.m) (line_bits f.octets) (line_bits xs) R)
      ∙ ap (findings S.m R) (sym (line-append f.octets xs))
      ∙ r.coming)

  -- each finding brings a record, so the units are no more than the slots
  few-units : (us : List (List ℕ)) → findings S.m R (line_bits f.octets) ≡ closings us → (answer h f).count ≤ S.k → length us ≤ S.k
  unfolding line_happenings
  few-units us e c =
      omega (
        arith,
        c,
        ap (λ (o : ReceiveOutcome). o.count) (answered h.link f.octets h.pool h.descriptors f.records z).1,
        found-happen S indications O,
        ap length (found-line S.m f.octets R ∙ e),
        closings-length us,
      )

  call-receiver : (board (fed h f)).receiver ≡ receiver_after S.m R (line_bits f.octets)
  unfolding board_after
  call-receiver = ap (λ (b : Board). b.receiver) (board-fed h f z) ∙ by_bits S.m f.octets R

  module _ (us : List (List ℕ)) (unseen : h.link.supervision.monitor ≡ started Off) (is : Handed S O indications us) where
    off-supervision : (board h).supervision ≡ unsupervised h.link.supervision.events
    off-supervision = ap {B = Supervision} (λ (m : Monitor). record { monitor = m; events = h.link.supervision.events }) unseen

    call-count : (answer h f).count ≡ length us
    unfolding line_happenings
    call-count =
        ap (λ (o : ReceiveOutcome). o.count) (answered h.link f.octets h.pool h.descriptors f.records z).1
        ∙ ap length is.all
        ∙ handed-count S.k us (ring_of h)

    call-records : wrote h f ≡ ring_records S.k (ring_of h) us
    unfolding line_records line_happenings
    call-records =
        records-wrote h f z
        ∙ ap₂ (λ (w : Supervision) (hs : List Happening). records_of (monitor_limits S) w hs) off-supervision is.all
        ∙ handed-records S.k (monitor_limits S) us (ring_of h) h.link.supervision.events

    call-ring : ring_of (fed h f) ≡ ring_after S.k (ring_of h) us
    unfolding board_after
    call-ring = ap (λ (b : Board). ring_of_units b.unit_memory) (board-fed h f z) ∙ is.ring

    call-still : (fed h f).link.units.counting.on ≡ false
    unfolding board_after
    call-still = ap (λ (b : Board). b.unit_memory.units.counting.on) (board-fed h f z) ∙ is.still

    call-unsupervised : (fed h f).link.supervision.monitor ≡ started Off
    unfolding board_after line_happenings
    call-unsupervised =
        ap (λ (b : Board). b.supervision.monitor) (board-fed h f z)
        ∙ ap₂ (λ (w : Supervision) (hs : List Happening). (supervision_after (monitor_limits S) w hs).monitor) off-supervision is.all
        ∙ handed-unsupervised S.k (monitor_limits S) us (ring_of h) h.link.supervision.events

  -- of a link that reads a line, with every slot empty and one for each unit
  pub called : (bits later : List Bool) (ws : List (List ℕ)) → Reads h.link bits ws → (p : Parts later ws)
      → ((slot : ℕ) → slot < S.k → status_of h.descriptors slot ≡ status_word statuses.Empty) → length p.early ≤ S.k
      → Called h f later p.early p.late
  called bits later ws r p empty few =
      let us = p.early in
      let a = both-allowed S.m us p.late (subst (AllAllowed S.m) p.is r.allowed) in
      let marked : found_in indications ≡ closings us = found-line S.m f.octets R ∙ p.first in
      let free = every-free S.k (length us) (ring_of h) few (can-receive h f z).formed.next empty in
      let is = all-handed S r.off indications us O a.0 free r.still marked in
      let same = same-settings h f z in
      record {
        few = few;
        count = call-count us r.monitor is;
        records = call-records us r.monitor is;
        ring = call-ring us r.monitor is;
        goes_on =
            record {
              off = ap (λ (x : Settings). x.filter) same ∙ r.off;
              still = call-still us r.monitor is;
              monitor = call-unsupervised us r.monitor is;
              allowed = subst (λ (x : Settings). AllAllowed x.m p.late) (sym same) a.1;
              coming = ap₂ (λ (x : Settings) (y : Receiver). findings x.m y later) same call-receiver ∙ p.rest;
            };
      }

-- ---- all of them
-- nothing comes of no octets
none-come : (h : Held) (us : List (List ℕ)) → Reads h.link (line_bits (octets_of_rounds [])) us → HandsOver h [] us
unfolding line_bits octets_of_rounds
none-come h [] r = none
none-come h (u ∷ us) r = let e = r.coming in cc

one-round : (t : Round) (ts : List Round) (h : Held) (later : List Bool) (ws us vs : List (List ℕ)) → ws ≡ us ++ vs
    → Called h t.feed later us vs → (Reads (round_done h t).link later vs → HandsOver (round_done h t) ts vs) → HandsOver h (t ∷ ts) ws
one-round t ts h later ws us vs e c go_on =
    subst (HandsOver h (t ∷ ts)) (sym e)
    (more us vs c.few c.records c.ring
    (go_on (subst (λ (l : Link). Reads l later vs) (sym (hand-links t.back (fed h t.feed))) c.goes_on)))

rounds-read : (ts : List Round) (h : Held) (us : List (List ℕ)) → Reads h.link (line_bits (octets_of_rounds ts)) us → Roomy h ts → HandsOver h ts us
unfolding octets_of_rounds
rounds-read [] h us r none = none-come h us r
rounds-read (t ∷ ts) h us r (more z empty few rest) =
    let bits = line_bits (t.feed.octets ++ octets_of_rounds ts) in
    let later = line_bits (octets_of_rounds ts) in
    let p = parts h t.feed z (octets_of_rounds ts) us r in
    one-round t ts h later us p.early p.late p.is
    (called h t.feed z bits later us r p empty (few-units h t.feed z p.early p.first few))
    (λ x. rounds-read ts (round_done h t) p.late x rest)

-- a booking just opened reads a transmitter's line
pub stream-reads : (s : Settings) (n : ℕ) (cs : List (List ℕ)) (bits w : List Bool) → s.filter ≡ false → bits ++ w ≡ stream_line n cs → length w ≤ 7
    → AllAllowed s.m cs → Reads (opened_link s) bits (closed_out (length w) cs)
stream-reads s n cs bits w off e few a =
    record {
      off = off;
      still = refl;
      monitor = refl;
      allowed = closed-allowed s.m (length w) cs a;
      coming = stream-found s.m n cs bits w a e few;
    }

pub stream-rounds : StreamRounds
stream-rounds l s pool descriptors ts n cs w z off roomy e few a =
    let us = closed_out (length w) cs in
    let reads = stream-reads s n cs (line_bits (octets_of_rounds ts)) w off e few a in
    subst (λ (o : Outcome).
    let held : Held = record { link = o.link; pool = o.pool; descriptors = o.descriptors } in
    Roomy held ts → HandsOver held ts us)
    (sym (opened l s pool descriptors z)) (rounds-read ts (fresh s pool) us reads) roomy
