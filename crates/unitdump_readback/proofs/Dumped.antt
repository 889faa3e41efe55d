-- A line that a booking sends, given one octet at a time: each octet closes at most one unit, and that one is written.
use Prim.Native.Nat.{ℕ, ◌*◌, ◌≤◌, ◌<◌}
use mathlib.Core.Path.{◌≡◌, refl, sym, ap, subst, ◌∙◌}
use mathlib.Core.List.{List, [], ◌∷◌, ◌++◌, map, append_assoc}
use native.Mathlib.Omega.{arith}
use lib.ListN.{length, replicate, length-replicate}
use Rattle.bits.specs.Format.{basic}
use Rattle.memory.specs.declared.Status.TheVariants as statuses
use Rattle.memory.specs.Lent.{status_of, length_of, slot_of, filled, status_word}
use Rattle.memory.proofs.Slots.{descriptor-written, descriptor-kept, slot-written, filled-length, empty-each}
use Rattle.board.specs.Limits.{record_room}
use Rattle.board.specs.declared.Settings.{Settings}
use Rattle.board.specs.declared.Link.{Link}
use Rattle.bits.specs.Octets.{line_bits}
use Rattle.bits.proofs.Lines.{length-line_bits}
use Rattle.link.specs.Calls.{Outcome}
use Rattle.link.specs.Held.{Held}
use Rattle.link.proofs.Kept.{opened}
use Rattle.transmission.specs.Transmission.{fills_first, contents}
use Rattle.readback.specs.Feeding.{board, Feed, answer, fed}
use Rattle.readback.specs.SlotRing.{unit_octets, SlotRing, ring_after}
use Rattle.readback.specs.Streams.{AllAllowed, closed_out, none as none_allowed, more as more-allowed}
use Rattle.readback.specs.Using.{InUse}
use Rattle.readback.specs.Reading.{Stands}
use Rattle.readback.specs.Rounds.{ring_of}
use Rattle.readback.specs.Promises.{line}
use Rattle.readback.proofs.Feeding.{can-receive, same-settings}
use Rattle.readback.proofs.Standing.{unit-length}
use Rattle.readback.proofs.Stream.{fresh}
use Rattle.readback.proofs.Using.{open-in-use, taken, still-used}
use Rattle.readback.proofs.Rounds.{Parts, parts, both-allowed, hand-links, Reads, Called, called, stream-reads}
use Rattle.readback.proofs.Once.{at_most_one}
use Rattle.readback.proofs.Emptying.{Clear}
use Rattle.readback.proofs.ReadBack.{waiting, sent-line}
use Rattle.unitdump_packets.specs.Packets.{packet_of}
use Rattle.unitdump_line.specs.Units.{Taken, ring_from, one_more, slots_back, slot_packets, octet_taken, octet_packets, all_packets}
use Rattle.unitdump_readback.specs.Promises.{Packets, none, more, AllDumped}
use Rattle.unitdump_readback.proofs.Emptied.{ring-empty, nothing_back, nothing-brought, unit_taken, unit-packet}

-- ---- packets of units in two parts
packets-append : {us vs : List (List ℕ)} {xs ys : List ℕ} → Packets us xs → Packets vs ys → Packets (us ++ vs) (xs ++ ys)
packets-append none q = q
packets-append {vs = vs} {ys = ys} (more n u {units = us} {packets = xs} p) q =
    subst (Packets (u ∷ (us ++ vs))) (sym (append_assoc (packet_of n u) xs ys)) (more n u (packets-append p q))

map-append : (us vs : List (List ℕ)) → map unit_octets (us ++ vs) ≡ map unit_octets us ++ map unit_octets vs
map-append [] vs = refl
map-append (u ∷ us) vs = ap {B = List (List ℕ)} (λ l. unit_octets u ∷ l) (map-append us vs)

-- ---- what one octet leaves in the slots: of at most one unit
record OctetDone (n : ℕ) (h : Held) (next : ℕ) (us : List (List ℕ)) : Type 0 where
  clear : Clear 16 (slots_back h (ring_from next))
  packets : Packets (map unit_octets us) (slot_packets n h (ring_from next))

module _ (n : ℕ) (h : Held) (next M : ℕ) (x : SlotRing) (used : InUse h) (sixteen : h.link.settings.k ≡ 16) (below : next < 16) (short : M ≤ 278)
    (words : 32 ≤ length x.descriptors) (octets : 4480 ≤ length x.pool) (is : x.next ≡ next)
    (empty : (t : ℕ) → t < 16 → status_of x.descriptors t ≡ status_word statuses.Empty) where
  octet-done : (us : List (List ℕ)) → length us ≤ 1 → AllAllowed M us → ring_of h ≡ ring_after 16 x us → OctetDone n h next us
  unfolding ring_after
  octet-done [] few a e =
      let each : (t : ℕ) → t < 16 → status_of h.descriptors t ≡ status_word statuses.Empty = λ t b. ap (λ (r : SlotRing). status_of r.descriptors t) e ∙ empty t b in
      let all = ring-empty h.descriptors next below each in
      record {
        clear = subst (Clear 16) (sym (nothing_back h (ring_from next) all)) (record { used = used; size = sixteen; empty-each = each });
        packets = subst (Packets []) (sym (nothing-brought n h (ring_from next) all)) none;
      }
  octet-done (u ∷ []) few (more-allowed a none_allowed) e =
      let unit = unit_octets u in
      let fits : length unit ≤ 278 = omega (arith, unit-length u, a.most) in
      let w = descriptor-written x.descriptors x.next 0 (length unit) (omega (arith, is)) in
      let p = slot-written basic x.pool (filled basic unit) x.next (filled-length basic unit (omega arith)) (omega (arith, is)) in
      let stands : Stands h x.next unit =
      record {
        status = ap (λ (r : SlotRing). status_of r.descriptors x.next) e ∙ w.0;
        size = ap (λ (r : SlotRing). length_of r.descriptors x.next) e ∙ w.1;
        octets = ap (λ (r : SlotRing). slot_of basic r.pool x.next) e ∙ p;
      } in
      let others : (t : ℕ) → t < 16 → (t ≡ next → ⊥) → status_of h.descriptors t ≡ status_word statuses.Empty =
      λ t b d. ap (λ (r : SlotRing). status_of r.descriptors t) e ∙ (descriptor-kept x.descriptors x.next t 0 (length unit) (λ q. d (q ∙ is))).0 ∙ empty t b in
      let stands_next : Stands h next unit = subst (λ (slot : ℕ). Stands h slot unit) is stands in
      record {
        clear = unit_taken h next unit used sixteen below fits stands_next others;
        packets = subst (Packets (unit ∷ [])) (sym (unit-packet h next unit used sixteen below fits stands_next others n)) (more n unit none);
      }
  octet-done (u ∷ v ∷ us) few a e = absurd (omega arith)

-- ---- one octet
abbrev octet_feed : ℕ → Feed
octet_feed x = record { octets = x ∷ []; records = replicate 48 0 }

module _ (n : ℕ) (h : Held) (clear : Clear 16 h) (x : ℕ) (xs : List ℕ) (ws : List (List ℕ)) (r : Reads h.link (line_bits (x ∷ xs)) ws) where
  abbrev f : Feed
  f = octet_feed x

  abbrev next : ℕ
  next = h.link.units.slots.next

  room : record_room * length f.octets ≤ length f.records
  room = omega (arith, length-replicate {A = ℕ} 48 0)

  zero-answered : (answer h f).number ≡ 0
  zero-answered = taken h f clear.used (omega arith) room

  p : Parts h f zero-answered (line_bits xs) ws
  p = parts h f zero-answered xs ws r

  one : length p.early ≤ 1
  one = at_most_one h.link.settings.m (line_bits (x ∷ [])) (board h).receiver p.early (omega (arith, length-line_bits (x ∷ []))) p.first

  every-empty : (slot : ℕ) → slot < h.link.settings.k → status_of h.descriptors slot ≡ status_word statuses.Empty
  every-empty slot b = clear.empty-each slot (omega (arith, clear.size))

  this : Called h f (line_bits xs) p.early p.late
  this = called h f zero-answered (line_bits (x ∷ xs)) (line_bits xs) ws r p every-empty (omega (arith, one, clear.size))

  same_size : (fed h f).link.settings.k ≡ 16
  same_size = ap (λ (s : Settings). s.k) (same-settings h f zero-answered) ∙ clear.size

  then : OctetDone n (fed h f) next p.early
  then =
      let can = can-receive h f zero-answered in
      let a = both-allowed h.link.settings.m p.early p.late (subst (AllAllowed h.link.settings.m) p.is r.allowed) in
      octet-done n (fed h f) next h.link.settings.m (ring_of h) (still-used h f clear.used (omega arith) room) same_size
      (omega (arith, can.formed.next, clear.size)) can.formed.settings.m.1 (omega (arith, can.words-2, clear.size)) (omega (arith, can.octets-280, clear.size)) refl
      clear.empty-each p.early one a.0 (subst (λ (k : ℕ). ring_of (fed h f) ≡ ring_after k (ring_of h) p.early) clear.size this.ring)

  -- the rest of the line is still to come
  then-reads : Reads (slots_back (fed h f) (ring_from next)).link (line_bits xs) p.late
  unfolding slots_back
  then-reads = subst (λ (l : Link). Reads l (line_bits xs) p.late) (sym (hand-links (ring_from next) (fed h f))) this.goes_on

-- ---- all octets
no-more : (l : Link) (ws : List (List ℕ)) → Reads l (line_bits []) ws → ws ≡ []
unfolding line_bits
no-more l [] r = refl
no-more l (w ∷ ws) r = let e = r.coming in cc

packets-read : (xs : List ℕ) (t : Taken) (ws : List (List ℕ)) → Clear 16 t.held → Reads t.held.link (line_bits xs) ws
    → Packets (map unit_octets ws) (all_packets t xs)
unfolding all_packets octet_taken octet_packets
packets-read [] t ws clear r = subst (λ (us : List (List ℕ)). Packets (map unit_octets us) []) (sym (no-more t.held.link ws r)) none
packets-read (x ∷ xs) t ws clear r =
    let q = p (one_more t.octets) t.held clear x xs ws r in
    let d = then (one_more t.octets) t.held clear x xs ws r in
    let rest = packets-read xs (octet_taken t x) q.late d.clear (then-reads (one_more t.octets) t.held clear x xs ws r) in
    subst (λ (us : List (List ℕ)). Packets us (all_packets t (x ∷ xs))) (sym (ap (map unit_octets) q.is ∙ map-append q.early q.late)) (packets-append d.packets rest)

-- ---- a booking just opened
fresh-clear : (s : Settings) (pool : List ℕ) → s.k ≡ 16 → InUse (fresh s pool) → Clear 16 (fresh s pool)
fresh-clear s pool sixteen u = record { used = u; size = sixteen; empty-each = λ slot b. (empty-each s.k slot (omega (arith, sixteen))).0 }

pub all-dumped : AllDumped
all-dumped b l s pool descriptors n sent z off sixteen allowed =
    let us = closed_out (length (waiting b)) (contents b.sendings) in
    let reads =
    stream-reads s (fills_first b.sendings) (contents b.sendings) (line_bits (line b)) (waiting b) off
    (sent-line b sent).0 (sent-line b sent).1 allowed in
    subst (λ (o : Outcome).
    let held : Held = record { link = o.link; pool = o.pool; descriptors = o.descriptors } in
    InUse held → Packets (map unit_octets us) (all_packets (record { held = held; octets = n }) (line b)))
    (sym (opened l s pool descriptors z))
    (λ (u : InUse (fresh s pool)). packets-read (line b) (record { held = fresh s pool; octets = n }) us (fresh-clear s pool sixteen u) reads)
    (open-in-use l s pool descriptors z)
