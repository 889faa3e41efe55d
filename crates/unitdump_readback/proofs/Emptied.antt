-- The slots round the ring, when at most the next one holds a unit: it is read, and all are empty then.
use Prim.Native.Nat.{ℕ, zero, suc, ◌+◌, ◌-◌, ◌≤◌, ◌<◌}
use mathlib.Core.Path.{◌≡◌, refl, sym, ap, subst, ◌∙◌}
use mathlib.Core.List.{List, [], ◌∷◌, ◌++◌}
use native.Mathlib.Decide.{ℕ_discrete}
use native.Mathlib.Omega.{arith}
use lib.ListN.{length}
use Rattle.bits.specs.Format.{basic}
use Rattle.memory.specs.declared.Status.TheVariants as statuses
use Rattle.memory.specs.Lent.{status_of, with_slot, with_descriptor, empty_slot, status_word}
use Rattle.memory.proofs.Slots.{pool-length, descriptors-length, descriptor-written, descriptor-kept, empty-slot-length}
use Rattle.link.specs.Refusals.{read_number}
use Rattle.link.specs.Calls.{Outcome, outcome, hand_answer}
use Rattle.link.specs.Held.{Held, handed_back}
use Rattle.link.proofs.Answers.{done, readable}
use Rattle.readback.specs.Using.{InUse}
use Rattle.readback.specs.Reading.{Stands}
use Rattle.readback.proofs.Using.{lent, stands_read}
use Rattle.readback.proofs.Emptying.{Clear}
use Rattle.lineview_board.proofs.Views.{slot-empty}
use Rattle.unitdump_packets.specs.Packets.{packet_of}
use Rattle.unitdump_line.specs.Units.{slots_from, ring_from, unit_in, slots_back, slot_packets}
use Rattle.unitdump_line.proofs.Taking.{empty-read}

-- ---- slots that are empty
pub data AllEmpty (descriptors : List ℕ) : List ℕ → Type 0 where
  none : AllEmpty descriptors []
  more : {slot : ℕ} {slots : List ℕ} → status_of descriptors slot ≡ status_word statuses.Empty → AllEmpty descriptors slots → AllEmpty descriptors (slot ∷ slots)

-- bring nothing, and stay as they are
pub nothing_back : (h : Held) (slots : List ℕ) → AllEmpty h.descriptors slots → slots_back h slots ≡ h
unfolding slots_back
nothing_back h [] none = refl
nothing_back h (slot ∷ slots) (more e es) = ap (λ (x : Held). slots_back x slots) (sym (slot-empty h slot e)) ∙ nothing_back h slots es

pub nothing-brought : (n : ℕ) (h : Held) (slots : List ℕ) → AllEmpty h.descriptors slots → slot_packets n h slots ≡ []
unfolding slot_packets
nothing-brought n h [] none = refl
nothing-brought n h (slot ∷ slots) (more e es) =
    ap (λ (xs : List ℕ). packet_of n xs ++ slot_packets n (handed_back h slot) slots) (empty-read h.link h.pool h.descriptors slot e)
    ∙ ap (λ (x : Held). slot_packets n x slots) (sym (slot-empty h slot e)) ∙ nothing-brought n h slots es

slots-empty : (ds : List ℕ) (n slot : ℕ) → ((t : ℕ) → slot ≤ t → t < slot + n → status_of ds t ≡ status_word statuses.Empty) → AllEmpty ds (slots_from slot n)
unfolding slots_from
slots-empty ds zero slot e = none
slots-empty ds (suc n) slot e = more (e slot (omega arith) (omega arith)) (slots-empty ds n (suc slot) (λ t a b. e t (omega arith) (omega arith)))

both-empty : (ds xs ys : List ℕ) → AllEmpty ds xs → AllEmpty ds ys → AllEmpty ds (xs ++ ys)
both-empty ds [] ys none e = e
both-empty ds (x ∷ xs) ys (more a rest) e = more a (both-empty ds xs ys rest e)

pub ring-empty : (ds : List ℕ) (next : ℕ) → next < 16 → ((t : ℕ) → t < 16 → status_of ds t ≡ status_word statuses.Empty) → AllEmpty ds (ring_from next)
ring-empty ds next below e =
    both-empty ds (slots_from next (16 - next)) (slots_from 0 next) (slots-empty ds (16 - next) next (λ t a b. e t (omega arith)))
    (slots-empty ds next 0 (λ t a b. e t (omega arith)))

-- ---- a unit in the next slot, all others empty
first-slot : (next : ℕ) → next < 16 → ring_from next ≡ next ∷ (slots_from (suc next) (15 - next) ++ slots_from 0 next)
unfolding slots_from
first-slot next below =
    let one_and : 16 - next ≡ suc (15 - next) = omega arith in
    ap (λ (n : ℕ). slots_from next n ++ slots_from 0 next) one_and

module _ (h : Held) (next : ℕ) (unit : List ℕ) (u : InUse h) (sixteen : h.link.settings.k ≡ 16) (below : next < 16) (short : length unit ≤ 278) (s : Stands h next unit)
    (others : (t : ℕ) → t < 16 → (t ≡ next → ⊥) → status_of h.descriptors t ≡ status_word statuses.Empty) where
  can : (read_number h.link h.pool h.descriptors next ≡ 0) × (unit_in h next ≡ unit)
  can = stands_read h next unit u (omega (arith, sixteen)) short s

  abbrev then : Outcome
  then = outcome 0 h.link (with_slot basic h.pool next (empty_slot basic)) (with_descriptor h.descriptors next (status_word statuses.Empty) 0)

  answers : hand_answer h.link h.pool h.descriptors next ≡ then
  unfolding hand_answer
  answers = done _ _ _ can.0

  abbrev held_in : Outcome → Held
  held_in o = record { link = o.link; pool = o.pool; descriptors = o.descriptors }

  -- every slot is empty then
  cleared : Clear 16 (handed_back h next)
  cleared =
      let ok = readable h.link h.pool h.descriptors next can.0 in
      subst (λ (o : Outcome). Clear 16 (held_in o)) (sym answers)
      (record {
        used =
            record {
              opened = u.opened;
              formed = u.formed;
              fits =
                  lent h.link.settings.k then.pool then.descriptors
                  (pool-length basic h.pool (empty_slot basic) next (empty-slot-length basic) (omega (arith, ok.octets, sixteen)) ∙ ok.octets)
                  (descriptors-length h.descriptors next (status_word statuses.Empty) 0 ∙ ok.words);
            };
        size = sixteen;
        empty-each =
            λ t b. elim (ℕ_discrete t next) [
              | yes p ↦ ap (λ (x : ℕ). status_of then.descriptors x) p
                  ∙ (descriptor-written h.descriptors next (status_word statuses.Empty) 0 (omega (arith, ok.words, sixteen))).0
              | no p ↦ (descriptor-kept h.descriptors next t (status_word statuses.Empty) 0 p).0 ∙ others t b p
            ];
      })

  abbrev rest : List ℕ
  rest = slots_from (suc next) (15 - next) ++ slots_from 0 next

  rest-empty : AllEmpty (handed_back h next).descriptors rest
  rest-empty =
      let e = cleared.empty-each in
      both-empty (handed_back h next).descriptors (slots_from (suc next) (15 - next)) (slots_from 0 next)
      (slots-empty (handed_back h next).descriptors (15 - next) (suc next) (λ t a b. e t (omega arith)))
      (slots-empty (handed_back h next).descriptors next 0 (λ t a b. e t (omega arith)))

  one-back : slots_back h (next ∷ rest) ≡ handed_back h next
  unfolding slots_back
  one-back = nothing_back (handed_back h next) rest rest-empty

  one-packet : (n : ℕ) → slot_packets n h (next ∷ rest) ≡ packet_of n unit ++ []
  unfolding slot_packets
  one-packet n =
      ap (λ (xs : List ℕ). packet_of n xs ++ slot_packets n (handed_back h next) rest) can.1
      ∙ ap (λ (xs : List ℕ). packet_of n unit ++ xs) (nothing-brought n (handed_back h next) rest rest-empty)

  pub unit_taken : Clear 16 (slots_back h (ring_from next))
  unit_taken = subst (Clear 16) (sym (ap (slots_back h) (first-slot next below) ∙ one-back)) cleared

  pub unit-packet : (n : ℕ) → slot_packets n h (ring_from next) ≡ packet_of n unit ++ []
  unit-packet n = ap (slot_packets n h) (first-slot next below) ∙ one-packet n
