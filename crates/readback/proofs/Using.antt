-- A link in use refuses no receive of the sizes allowed and stays in use, and what stands in its slots can be read.
use Prim.Native.Nat.{ℕ, ◌+◌, ◌*◌, ◌≤◌, ◌<◌}
use mathlib.Core.Path.{◌≡◌, refl, sym, ap, ap₂, subst, ◌∙◌}
use mathlib.Core.Bool.{true}
use mathlib.Core.List.{List, [], ◌∷◌, ◌++◌, append_assoc, append-nil}
use native.Mathlib.Omega.{arith}
use lib.ListN.{length, take, length-append}
use borrow.Author.Tests.{eq-eqb, le-ltb, lt-leb}
use Rattle.memory.specs.declared.Status.TheVariants as statuses
use Rattle.bits.specs.Format.{basic, most_longest}
use Rattle.board.specs.Limits.{record_room}
use Rattle.bits.specs.Octets.{bits_of, line_bits, Octets}
use Rattle.bits.proofs.Packing.{packed-nil}
use Rattle.memory.specs.Lent.{empty_descriptors, status_of, length_of, status_word}
use Rattle.memory.proofs.Slots.{empty-length, filled-front}
use Rattle.board.specs.declared.Settings.{Settings}
use Rattle.board.specs.Link.{clear_area}
use Rattle.board.specs.Malformed.{no_ones, zero_past, in_range}
use Rattle.board.specs.Promises.{Sized}
use Rattle.board.specs.With.{with_reception}
use Rattle.framing.proofs.Encoding.{encodes-back}
use Rattle.board.proofs.Ranges.{ranges, not-malformed}
use Rattle.board.specs.InnerRanges.{WellFormed, SettingsInRange}
use Rattle.units.specs.Indications.{line_indications}
use Rattle.reception.specs.Line.{Board, board_after, line_happenings, line_records}
use Rattle.indications.specs.InnerWriting.{holding, indications_done}
use Rattle.reception.specs.InnerWriting.{StateInRange}
use Rattle.reception.proofs.Octets.{ready-kept}
use Rattle.link.specs.Refusals.{first, fits_memory, read_number}
use Rattle.input.specs.Refusals.{receive_number}
use Rattle.link.specs.Calls.{Outcome, opened_link, read_part}
use Rattle.input.specs.InnerProgress.{progress_of}
use Rattle.input.specs.Receive.{ReceiveOutcome, link_of, received, receive_answer}
use Rattle.link.proofs.Answers.{done, openable}
use Rattle.link.proofs.Kept.{open-number, opened}
use Rattle.input.proofs.Receiving.{Receivable, receivable, ready, held}
use Rattle.link.specs.Held.{Held}
use Rattle.readback.specs.Feeding.{board, Feed, answer, fed, wrote, held_after, records_fed, octets_fed, Answered, none as no-calls, more as one-call}
use Rattle.readback.specs.Using.{InUse, none, more, OpenInUse, StaysInUse, AnyCutting, LineCut, StandsRead}
use Rattle.readback.proofs.Gathered.{Sound, line-held, line-sound, line-allowed}
use Rattle.readback.proofs.Feeding.{few-gathered, holding_board, held-fed, board-fed, fed-as-one}
use Rattle.board.proofs.Past.{packed-past}
use Rattle.readback.proofs.Stream.{fresh}
use Rattle.readback.proofs.Counter.{left-most}

-- the memory of k slots
pub lent : (k : ℕ) (pool descriptors : List ℕ) → length pool ≡ 280 * k → length descriptors ≡ 2 * k → fits_memory basic k pool descriptors ≡ true
unfolding fits_memory
lent k pool descriptors p d = rw (eq-eqb (length pool) (280 * k) p, eq-eqb (length descriptors) (2 * k) d)

-- ---- a booking just opened
clear-past : zero_past 0 clear_area ≡ true
unfolding clear_area
clear-past = ap (zero_past 0) (sym (packed-nil 279)) ∙ packed-past 279 []

no-wait : zero_past 0 (0 ∷ []) ≡ true
unfolding zero_past no_ones line_bits bits_of
no-wait = refl

opened-formed : (s : Settings) → SettingsInRange s → WellFormed (opened_link s)
opened-formed s r =
    record {
      area = clear-past;
      settings = r;
      run = omega arith;
      bits = omega arith;
      idle = λ _. refl;
      counter = (r.n.0, omega arith);
      monitor = record { number = omega (arith, r.d.0); count = omega arith };
      next = omega (arith, r.k.0);
      waiting = omega arith;
      unflagged = λ _. refl;
      wait = no-wait;
    }

pub fresh-in-use : (s : Settings) (pool : List ℕ) → in_range basic s ≡ true → length pool ≡ 280 * s.k → InUse (fresh s pool)
fresh-in-use s pool range size =
    record {
      opened = refl;
      formed = not-malformed (opened_link s) refl (opened-formed s (ranges s range));
      fits = lent s.k pool (empty_descriptors s.k) size (empty-length s.k);
    }

pub open-in-use : OpenInUse
open-in-use l s pool descriptors e =
    let ok = openable l s pool descriptors (sym (open-number l s pool descriptors) ∙ e) in
    subst (λ (o : Outcome). InUse (record { link = o.link; pool = o.pool; descriptors = o.descriptors })) (sym (opened l s pool descriptors e))
    (fresh-in-use s pool ok.range ok.octets)

-- ---- one receive call
module _ (h : Held) (f : Feed) (u : InUse h) (few : length f.octets ≤ 1024) (room : record_room * length f.octets ≤ length f.records) where
  abbrev S : Settings
  S = h.link.settings

  abbrev then : Board
  then = board_after S (board h) f.octets

  no-fault : receive_number h.link f.octets h.pool h.descriptors f.records ≡ 0
  unfolding receive_number first
  no-fault =
      rw (u.formed, u.opened, u.fits, le-ltb 1024 (length f.octets) few, le-ltb (length f.records) (record_room * length f.octets) room)

  is-received : answer h f ≡ received h.link f.octets h.pool h.descriptors f.records
  unfolding receive_answer
  is-received = done _ _ _ no-fault

  pub taken : (answer h f).number ≡ 0
  taken = ap (λ (o : ReceiveOutcome). o.number) is-received

  can : Receivable h.link f.octets h.pool h.descriptors f.records
  can = receivable h.link f.octets h.pool h.descriptors f.records no-fault

  few_bits : length (board h).receiver.gathered ≤ 8 * S.m + 7
  few_bits = few-gathered h f.octets f.records can

  -- unit state, monitor and lent memory stay in range,
  still-ready : StateInRange S (holding (record { units = then.unit_memory.units; supervision = then.supervision; count = 0 }) then.unit_memory.pool then.unit_memory.descriptors [])
  unfolding board_after line_happenings indications_done
  still-ready =
      let k =
      ready-kept S (holding (progress_of h.link) h.pool h.descriptors f.records) (line_indications S.m (board h).receiver f.octets)
      can.formed.settings
      (line-allowed S.m f.octets (board h).receiver can.formed.settings.m.1 few_bits)
      (ready h.link f.octets h.pool h.descriptors f.records can) in
      record { monitor = k.monitor; fits = k.fits }

  -- and so does the receiver
  bits-after : length then.receiver.gathered ≤ 8 * S.m + 7
  unfolding board_after
  bits-after = line-held S.m f.octets (board h).receiver few_bits

  sound-after : Sound then.receiver
  unfolding board_after
  sound-after =
      line-sound S.m f.octets (board h).receiver
      (record { run = can.formed.run; idle = λ e. ap (λ (n : ℕ). take n (line_bits h.link.line.area)) (can.formed.idle e) })

  -- and N's counter
  left_after : then.unit_memory.units.counting.left ≤ S.n
  unfolding board_after
  left_after = left-most S (line_indications S.m (board h).receiver f.octets) (board h).unit_memory can.formed.counter.1

  formed-after : WellFormed (link_of h.link then)
  formed-after =
      record {
        area = packed-past 279 then.receiver.gathered;
        settings = can.formed.settings;
        run = sound-after.run;
        bits = bits-after;
        idle = λ e. ap length (sound-after.idle e);
        counter = (still-ready.fits.counter, left_after);
        monitor = still-ready.monitor;
        next = still-ready.fits.next;
        waiting = can.formed.waiting;
        unflagged = can.formed.unflagged;
        wait = can.formed.wait;
      }

  pub still-used : InUse (fed h f)
  still-used =
      subst (λ (o : ReceiveOutcome). InUse (record { link = o.link; pool = o.pool; descriptors = o.descriptors })) (sym is-received)
      (record {
        opened = u.opened;
        formed = not-malformed (link_of h.link then) u.opened formed-after;
        fits = lent S.k then.unit_memory.pool then.unit_memory.descriptors still-ready.fits.octets still-ready.fits.words;
      })

pub stays-in-use : StaysInUse
unfolding held_after
stays-in-use h [] u none = (no-calls, u)
stays-in-use h (f ∷ fs) u (more few room rest) =
    let r = stays-in-use (fed h f) fs (still-used h f u few room) rest in
    (one-call (taken h f u few room) r.0, r.1)

-- ---- the same link, however a line is cut
-- a link in use holds its own board
own-board : (h : Held) → InUse h → Sized h.link → Octets h.link.line.area → h ≡ holding_board h (board h)
own-board h u size octets =
    let ok = can h (record { octets = []; records = [] }) u (omega arith) (omega arith) in
    let e =
    encodes-back h.link.settings.m h.link.line.state h.link.line.area ok.formed.settings.m.1
    (held h.link [] h.pool h.descriptors [] ok (size.area, octets)) in
    λ i.
    record {
      link = with_reception h.link (record { state = e.0 i; area = e.1 i }) h.link.units h.link.supervision;
      pool = h.pool;
      descriptors = h.descriptors;
    }

-- what calls leave, or none, holds the board that they leave
calls-hold : (h : Held) (fs : List Feed) → Answered h fs → (fs ≡ [] → h ≡ holding_board h (board h))
    → held_after h fs ≡ holding_board h (board (held_after h fs))
unfolding held_after
calls-hold h [] no-calls own = own refl
calls-hold h (f ∷ fs) (one-call z a) own =
    let this = held-fed h f z in
    let same : (b : Board) → holding_board (fed h f) b ≡ holding_board h b = λ b. ap (λ (x : Held). holding_board x b) this in
    let own' = this ∙ ap (holding_board h) (sym (board-fed h f z)) ∙ sym (same (board (fed h f))) in
    calls-hold (fed h f) fs a (λ _. own') ∙ same (board (held_after (fed h f) fs))

-- so it is that of the line, and the records are
cut-alike : (h : Held) (fs gs : List Feed) → Answered h fs → Answered h gs → octets_fed fs ≡ octets_fed gs
    → (fs ≡ [] → h ≡ holding_board h (board h)) → (gs ≡ [] → h ≡ holding_board h (board h))
    → (held_after h fs ≡ held_after h gs) × (records_fed h fs ≡ records_fed h gs)
cut-alike h fs gs a b e own own' =
    let one = fed-as-one h fs a in
    let other = fed-as-one h gs b in (
      calls-hold h fs a own
          ∙ ap (holding_board h) (one.0 ∙ ap (board_after h.link.settings (board h)) e ∙ sym other.0)
          ∙ sym (calls-hold h gs b own'),
      one.1 ∙ ap (line_records h.link.settings (board h)) e ∙ sym other.1,
    )

pub any-cutting : AnyCutting
any-cutting h fs gs u size octets few few' e =
    let a = (stays-in-use h fs u few).0 in
    let b = (stays-in-use h gs u few').0 in
    let own = own-board h u size octets in
    let same = cut-alike h fs gs a b e (λ _. own) (λ _. own) in
    (a, b, same.0, same.1)

-- ---- one call, or two
pub line-cut : LineCut
unfolding held_after records_fed octets_fed
line-cut h xs ys records records₁ records₂ u few room room₁ room₂ =
    let one : Feed = record { octets = xs ++ ys; records = records } in
    let first : Feed = record { octets = xs; records = records₁ } in
    let second : Feed = record { octets = ys; records = records₂ } in
    let size = length-append xs ys in
    let few₁ : length xs ≤ 1024 = omega arith in
    let few₂ : length ys ≤ 1024 = omega arith in
    let u₁ = still-used h first u few₁ room₁ in
    let z = taken h one u few room in
    let z₁ = taken h first u few₁ room₁ in
    let z₂ = taken (fed h first) second u₁ few₂ room₂ in
    let same =
    cut-alike h (one ∷ []) (first ∷ second ∷ []) (one-call z no-calls) (one-call z₁ (one-call z₂ no-calls))
    (append_assoc xs ys []) (λ e. absurd (omega (arith, ap length e))) (λ e. absurd (omega (arith, ap length e))) in (
      z,
      z₁,
      z₂,
      ap (λ (x : Held). x.link) same.0,
      ap (λ (x : Held). x.pool) same.0,
      ap (λ (x : Held). x.descriptors) same.0,
      sym (append-nil (wrote h one))
          ∙ same.1
          ∙ ap (λ (rs : List ℕ). wrote h first ++ rs) (append-nil (wrote (fed h first) second)),
    )

-- ---- read
pub can-read : (h : Held) (slot : ℕ) → InUse h → slot < h.link.settings.k → status_of h.descriptors slot ≡ status_word statuses.Good
    → length_of h.descriptors slot ≤ most_longest basic → read_number h.link h.pool h.descriptors slot ≡ 0
unfolding read_number first
can-read h slot u below status short =
    rw (
      u.formed,
      u.opened,
      u.fits,
      lt-leb h.link.settings.k slot below,
      status,
      le-ltb (most_longest basic) (length_of h.descriptors slot) short,
    )

pub stands_read : StandsRead
unfolding read_part
stands_read h slot unit u below short is =
    let now = can-read h slot u below is.status (omega (arith, is.size)) in
    (now, done _ _ _ now ∙ ap₂ (λ (n : ℕ) (xs : List ℕ). take n xs) is.size is.octets ∙ filled-front basic unit)
