-- One octet at a time, and every slot handed back after each: each call finds every slot empty and hands over at most one unit.
use Prim.Native.Nat.{ℕ, ◌+◌, ◌*◌, ◌≤◌, ◌<◌}
use mathlib.Core.Path.{◌≡◌, refl, sym, ap, subst, ◌∙◌}
use mathlib.Core.List.{List, [], ◌∷◌}
use native.Mathlib.Omega.{arith}
use native.Mathlib.Decide.{ℕ_discrete}
use lib.ListN.{length, replicate, length-replicate}
use Rattle.memory.specs.declared.Status.TheVariants as statuses
use Rattle.board.specs.Limits.{record_room}
use Rattle.bits.specs.Octets.{line_bits}
use Rattle.bits.proofs.Lines.{length-line_bits}
use Rattle.memory.specs.Lent.{status_of, with_descriptor, status_word}
use Rattle.memory.proofs.Slots.{empty-each, descriptor-written, descriptor-kept}
use Rattle.board.specs.declared.Settings.{Settings}
use Rattle.board.specs.declared.Link.{Link}
use Rattle.link.specs.Calls.{Outcome}
use Rattle.link.proofs.Kept.{opened}
use Rattle.transmission.specs.Transmission.{fills_first, contents}
use Rattle.link.specs.Held.{Held}
use Rattle.readback.specs.Feeding.{board, Feed, answer, fed}
use Rattle.readback.specs.SlotRing.{unit_octets, SlotRing, ring_after}
use Rattle.readback.specs.Streams.{AllAllowed, closed_out, none as none_allowed, more as more-allowed}
use Rattle.readback.specs.Using.{InUse}
use Rattle.readback.specs.Rounds.{Round, round_done, octets_of_rounds, Roomy, none, more, ring_of}
use Rattle.readback.specs.Promises.{line}
use Rattle.readback.specs.OneByOne.{slots_of, one_by_one, AllReadOneByOne}
use Rattle.readback.proofs.Feeding.{can-receive, same-settings}
use Rattle.readback.proofs.Standing.{unit-length}
use Rattle.readback.proofs.Stream.{fresh}
use Rattle.readback.proofs.Using.{open-in-use, taken, still-used}
use Rattle.readback.proofs.Rounds.{Parts, parts, both-allowed, hand-links, Reads, Called, called, stream-reads}
use Rattle.readback.proofs.Once.{at_most_one}
use Rattle.readback.proofs.Emptying.{Returnable, empty, full, Clear, all_back}
use Rattle.readback.proofs.ReadBack.{waiting, sent-line, all-read-in-rounds}

-- ---- the slots after at most one unit
ring-returnable : (k M : ℕ) (x : SlotRing) (us : List (List ℕ)) → length us ≤ 1 → AllAllowed M us → M ≤ 278 → 2 * x.next + 2 ≤ length x.descriptors
    → (slot : ℕ) → status_of x.descriptors slot ≡ status_word statuses.Empty → Returnable (ring_after k x us).descriptors slot
unfolding ring_after
ring-returnable k M x [] few a m room slot e = empty e
ring-returnable k M x (u ∷ []) few (more-allowed a none_allowed) m room slot e =
    elim (ℕ_discrete slot x.next) [
      | yes p ↦ subst (Returnable (with_descriptor x.descriptors x.next 0 (length (unit_octets u)))) (sym p)
          (let w = descriptor-written x.descriptors x.next 0 (length (unit_octets u)) room in
          full w.0 (omega (arith, w.1, unit-length u, a.most)))
      | no p ↦ empty ((descriptor-kept x.descriptors x.next slot 0 (length (unit_octets u)) p).0 ∙ e)
    ]
ring-returnable k M x (u ∷ v ∷ us) few a m room slot e = absurd (omega arith)

-- ---- one octet
abbrev octet_feed : ℕ → Feed
octet_feed x = record { octets = x ∷ []; records = replicate 48 0 }

module _ (k : ℕ) (h : Held) (clear : Clear k h) (x : ℕ) (xs : List ℕ) (ws : List (List ℕ)) (r : Reads h.link (line_bits (x ∷ xs)) ws) where
  abbrev f : Feed
  f = octet_feed x

  abbrev t : Round
  t = record { feed = f; back = slots_of k }

  room : record_room * length f.octets ≤ length f.records
  room = omega (arith, length-replicate {A = ℕ} 48 0)

  zero-answered : (answer h f).number ≡ 0
  zero-answered = taken h f clear.used (omega arith) room

  p : Parts h f zero-answered (line_bits xs) ws
  p = parts h f zero-answered xs ws r

  one : length p.early ≤ 1
  one =
      at_most_one h.link.settings.m (line_bits (x ∷ [])) (board h).receiver p.early (omega (arith, length-line_bits (x ∷ []))) p.first

  fits_one : 1 ≤ h.link.settings.k
  fits_one = (can-receive h f zero-answered).formed.settings.k.0

  every-empty : (slot : ℕ) → slot < h.link.settings.k → status_of h.descriptors slot ≡ status_word statuses.Empty
  every-empty slot b = clear.empty-each slot (omega (arith, clear.size))

  this : Called h f (line_bits xs) p.early p.late
  this = called h f zero-answered (line_bits (x ∷ xs)) (line_bits xs) ws r p every-empty (omega (arith, one, fits_one))

  few-records : (answer h f).count ≤ h.link.settings.k
  few-records = omega (arith, this.count, one, fits_one)

  same_size : (fed h f).link.settings.k ≡ k
  same_size = ap (λ (s : Settings). s.k) (same-settings h f zero-answered) ∙ clear.size

  returnable : (slot : ℕ) → slot < k → Returnable (fed h f).descriptors slot
  returnable slot b =
      let can = can-receive h f zero-answered in
      let a = both-allowed h.link.settings.m p.early p.late (subst (AllAllowed h.link.settings.m) p.is r.allowed) in
      subst (λ (s : SlotRing). Returnable s.descriptors slot) (sym this.ring)
      (ring-returnable h.link.settings.k h.link.settings.m (ring_of h) p.early one a.0 can.formed.settings.m.1
      (omega (arith, can.formed.next, can.words-2)) slot (clear.empty-each slot b))

  -- every slot is empty again,
  then-clear : Clear k (round_done h t)
  then-clear =
      all_back k k (fed h f) (still-used h f clear.used (omega arith) room) same_size (omega arith) returnable (λ slot a b. absurd (omega arith))

  -- and the rest of the line is still to come
  then-reads : Reads (round_done h t).link (line_bits xs) p.late
  then-reads = subst (λ (l : Link). Reads l (line_bits xs) p.late) (sym (hand-links (slots_of k) (fed h f))) this.goes_on

-- ---- all octets
roomy : (k : ℕ) (xs : List ℕ) (h : Held) (ws : List (List ℕ)) → Clear k h → Reads h.link (line_bits xs) ws → Roomy h (one_by_one k xs)
unfolding one_by_one
roomy k [] h ws clear r = none
roomy k (x ∷ xs) h ws clear r =
    more (zero-answered k h clear x xs ws r) (every-empty k h clear x xs ws r) (few-records k h clear x xs ws r)
    (roomy k xs (round_done h (t k h clear x xs ws r)) (p k h clear x xs ws r).late (then-clear k h clear x xs ws r) (then-reads k h clear x xs ws r))

octets-are : (k : ℕ) (xs : List ℕ) → octets_of_rounds (one_by_one k xs) ≡ xs
unfolding octets_of_rounds one_by_one
octets-are k [] = refl
octets-are k (x ∷ xs) = ap {B = List ℕ} (λ ys. x ∷ ys) (octets-are k xs)

-- ---- a booking just opened
fresh-clear : (s : Settings) (pool : List ℕ) → InUse (fresh s pool) → Clear s.k (fresh s pool)
fresh-clear s pool u = record { used = u; size = refl; empty-each = λ slot b. (empty-each s.k slot b).0 }

pub all-read-one-by-one : AllReadOneByOne
all-read-one-by-one b l s pool descriptors sent z off allowed =
    let us = closed_out (length (waiting b)) (contents b.sendings) in
    let reads =
    stream-reads s (fills_first b.sendings) (contents b.sendings) (line_bits (line b)) (waiting b) off
    (sent-line b sent).0 (sent-line b sent).1 allowed in
    all-read-in-rounds b l s pool descriptors (one_by_one s.k (line b)) sent z off allowed
    (subst (λ (o : Outcome).
    let held : Held = record { link = o.link; pool = o.pool; descriptors = o.descriptors } in
    InUse held → Roomy held (one_by_one s.k (line b)))
    (sym (opened l s pool descriptors z)) (λ u. roomy s.k (line b) (fresh s pool) us (fresh-clear s pool u) reads)
    (open-in-use l s pool descriptors z))
    (octets-are s.k (line b))
