-- How one slot after the other, and one line octet after the other, make up all of them.
use Prim.Native.Nat.{ℕ, zero, suc, ◌+◌, ◌-◌, ◌≤◌, ◌<◌}
use mathlib.Core.Path.{◌≡◌, refl, sym, ap, ◌∙◌, subst}
use mathlib.Core.Bool.{Bool, true, false}
use mathlib.Core.List.{List, [], ◌∷◌, ◌++◌, append-nil}
use lib.Dec.{eqb}
use lib.ListN.{length, take, get_or, replicate}
use native.Mathlib.Omega.{arith}
use borrow.Author.Tests.{eqb-true}
use Rattle.std.specs.Prelude.{Option, Result, Ok, Err, MatchResult}
use Rattle.std.specs.Io.KnownBytes.{Appends}
use Rattle.std.proofs.KnownBytes.{Appends-nil, Appends-trans}
use Rattle.std.proofs.lemmas.List.{take_more}
use Rattle.bits.proofs.Machines.{run-append, outs-append}
use Rattle.memory.specs.declared.Status.TheVariants.{Empty}
use Rattle.memory.specs.Lent.{status_of, status_word}
use Rattle.board.specs.declared.Link.{Link}
use Rattle.link.specs.Calls.{read_part}
use Rattle.link.specs.Refusals.{read_number}
use Rattle.link.specs.Held.{Held, handed_back}
use Rattle.link.specs.declared.Counted.{Counted}
use Rattle.link.specs.declared.Refusal.{Refusal}
use Rattle.input.specs.Receive as Receive
use Rattle.input.specs.Receive.{ReceiveOutcome, receive_answer}
use Rattle.board.specs.Limits.{record_room}
use Rattle.lineview_board.proofs.Views.{empty-unread, slot-empty}
use Rattle.unitdump_packets.specs.Packets.{packet_header, packet_of}
use Rattle.unitdump_line.specs.Units.{Taken, slots_from, ring_from, one_more, received, next_of, unit_in, slots_back, slot_packets, TakesSlots, octet_taken, octet_packets, all_taken, all_packets, Takes}

-- a unit that has octets, as a packet
packet-is : (n : ℕ) (unit : List ℕ) → 0 < length unit → packet_of n unit ≡ packet_header n (length unit) ++ unit
packet-is n [] some = absurd (omega arith)
packet-is n (x ∷ xs) some = refl

pub packet-written : (n : ℕ) (unit header : List ℕ) (a b c : Option (List ℕ)) → 0 < length unit → header ≡ packet_header n (length unit)
    → Appends a b header → Appends b c unit → Appends a c (packet_of n unit)
packet-written n unit header a b c some e first second =
    rw (packet-is n unit some) (Appends-trans a b c (packet_header n (length unit)) unit (subst (Appends a b) e first) second)

pub no-packet : (n : ℕ) (unit : List ℕ) (o : Option (List ℕ)) → length unit ≡ 0 → Appends o o (packet_of n unit)
no-packet n [] o none = Appends-nil o
no-packet n (x ∷ xs) o none = absurd (omega arith)

-- ---- slots

pub no-slots : (a : ℕ) → slots_from a 0 ≡ []
unfolding slots_from
no-slots a = refl

-- one slot more at the end
pub slots-push : (n a : ℕ) → slots_from a (suc n) ≡ slots_from a n ++ (a + n) ∷ []
unfolding slots_from
slots-push zero a = ap (λ (x : ℕ). x ∷ []) (omega arith)
slots-push (suc n) a = ap (λ (xs : List ℕ). a ∷ xs) (slots-push n (suc a) ∙ ap (λ (x : ℕ). slots_from (suc a) n ++ x ∷ []) (omega arith))

pub slots-none : (n : ℕ) (h : Held) (o : Option (List ℕ)) → TakesSlots n h h o o []
unfolding slots_back slot_packets
slots-none n h o = (Appends-nil o, refl)

pub slots-more : (n : ℕ) (h h' h'' : Held) (o p q : Option (List ℕ)) (xs ys : List ℕ) → TakesSlots n h h' o p xs → TakesSlots n h' h'' p q ys
    → TakesSlots n h h'' o q (xs ++ ys)
unfolding slots_back slot_packets
slots-more n h h' h'' o p q xs ys (first, held) (second, last) =
    let put = λ (x : Held) (slot : ℕ). packet_of n (unit_in x slot) in (
      subst (Appends o q)
          (ap (λ (x : Held). slot_packets n h xs ++ slot_packets n x ys) held ∙ sym (outs-append handed_back put xs ys h))
          (Appends-trans o p q _ _ first second),
      last ∙ ap (λ (x : Held). slots_back x ys) held ∙ sym (run-append handed_back xs ys h),
    )

-- one slot, whose unit is written
pub slot-written : (n : ℕ) (h h' : Held) (p q : Option (List ℕ)) (slot : ℕ) → Appends p q (packet_of n (unit_in h slot)) → h' ≡ handed_back h slot
    → TakesSlots n h h' p q (slot ∷ [])
unfolding slots_back slot_packets
slot-written n h h' p q slot written held = (subst (Appends p q) (sym (append-nil (packet_of n (unit_in h slot)))) written, held)

-- slots up to here, and this one
slots-next : (first slot : ℕ) → first ≤ slot → slots_from first (slot + 1 - first) ≡ slots_from first (slot - first) ++ slot ∷ []
slots-next first slot from =
    ap (slots_from first) (omega arith) ∙ slots-push (slot - first) first
    ∙ ap (λ (x : ℕ). slots_from first (slot - first) ++ x ∷ []) (omega arith)

pub slot-step : (n : ℕ) (h₀ h h' : Held) (o p q : Option (List ℕ)) (first slot : ℕ) → first ≤ slot → TakesSlots n h₀ h o p (slots_from first (slot - first))
    → TakesSlots n h h' p q (slot ∷ []) → TakesSlots n h₀ h' o q (slots_from first (slot + 1 - first))
slot-step n h₀ h h' o p q first slot from so_far one =
    rw (slots-next first slot from) (slots-more n h₀ h h' o p q (slots_from first (slot - first)) (slot ∷ []) so_far one)

-- an empty slot can't be read
pub empty-read : (l : Link) (pool descriptors : List ℕ) (slot : ℕ) → status_of descriptors slot ≡ status_word Empty → read_part l pool descriptors slot ≡ []
unfolding read_part
empty-read l pool descriptors slot e = go (eqb (read_number l pool descriptors slot) 0) refl
  where
    go : (b : Bool) → eqb (read_number l pool descriptors slot) 0 ≡ b → read_part l pool descriptors slot ≡ []
    go true z = absurd (empty-unread l pool descriptors slot (eqb-true _ 0 z) e)
    go false z = rw z

-- so that it brings nothing, and stays as it is
pub slot-passed : (n : ℕ) (h : Held) (o : Option (List ℕ)) (slot : ℕ) → status_of h.descriptors slot ≡ status_word Empty
    → TakesSlots n h h o o (slot ∷ [])
slot-passed n h o slot e =
    slot-written n h h o o slot (subst (λ (xs : List ℕ). Appends o o (packet_of n xs)) (sym (empty-read h.link h.pool h.descriptors slot e)) (Appends-nil o)) (slot-empty h slot e)

-- all slots, round the ring
pub ring : (n : ℕ) (h h' h'' : Held) (o p q : Option (List ℕ)) (first : ℕ) → TakesSlots n h h' o p (slots_from first (16 - first))
    → TakesSlots n h' h'' p q (slots_from 0 (first - 0)) → TakesSlots n h h'' o q (ring_from first)
ring n h h' h'' o p q first one two =
    slots-more n h h' h'' o p q (slots_from first (16 - first)) (slots_from 0 first) one
    (subst (λ (k : ℕ). TakesSlots n h' h'' p q (slots_from 0 k)) (omega arith) two)

-- ---- line octets

-- the link after the call, refused or not
pub received-is : (h : Held) (octet : ℕ) (after : Link) (r : Result Counted Refusal) (p d a : List ℕ) {P : Counted → Type 0}
    → Receive.outcome_of h.link r p d a ≡ receive_answer h.link (octet ∷ []) h.pool h.descriptors (replicate record_room 0)
    → MatchResult r P (λ _. after ≡ h.link) → ((x : Counted) → P x → after ≡ x.link)
    → record { link = after; pool = p; descriptors = d } ≡ received h octet
received-is h octet after (Ok x) p d a e el given =
    rw (given x el) (ap {B = Held} (λ (o : ReceiveOutcome). record { link = o.link; pool = o.pool; descriptors = o.descriptors }) e)
received-is h octet after (Err x) p d a e el given =
    rw el (ap {B = Held} (λ (o : ReceiveOutcome). record { link = o.link; pool = o.pool; descriptors = o.descriptors }) e)

pub octet-one : (t : Taken) (octet : ℕ) (h h' : Held) (o q : Option (List ℕ)) → h ≡ received t.held octet
    → TakesSlots (one_more t.octets) h h' o q (ring_from (next_of t)) → Takes t (record { held = h'; octets = one_more t.octets }) o q (octet ∷ [])
unfolding all_taken all_packets octet_taken octet_packets
octet-one t octet h h' o q e slots =
    let (written, held) = rw e at slots in (
      subst (Appends o q) (sym (append-nil (octet_packets t octet))) written,
      λ i. record { held = held i; octets = one_more t.octets },
    )

pub takes-none : (t : Taken) (o : Option (List ℕ)) → Takes t t o o []
unfolding all_taken all_packets
takes-none t o = (Appends-nil o, refl)

pub takes-more : (t t' t'' : Taken) (o p q : Option (List ℕ)) (xs ys : List ℕ) → Takes t t' o p xs → Takes t' t'' p q ys → Takes t t'' o q (xs ++ ys)
unfolding all_taken all_packets
takes-more t t' t'' o p q xs ys (first, taken) (second, last) = (
  subst (Appends o q)
      (ap (λ (x : Taken). all_packets t xs ++ all_packets x ys) taken ∙ sym (outs-append octet_taken octet_packets xs ys t))
      (Appends-trans o p q _ _ first second),
  last ∙ ap (λ (x : Taken). all_taken x ys) taken ∙ sym (run-append octet_taken xs ys t),
)

-- one line octet more
pub octet-step : (t₀ t t' : Taken) (o p q : Option (List ℕ)) (octets : List ℕ) (i : ℕ) → i < length octets → Takes t₀ t o p (take i octets)
    → Takes t t' p q (get_or octets i 0 ∷ []) → Takes t₀ t' o q (take (i + 1) octets)
octet-step t₀ t t' o p q octets i below so_far one =
    rw (take_more octets i 0 below) (takes-more t₀ t t' o p q (take i octets) (get_or octets i 0 ∷ []) so_far one)
