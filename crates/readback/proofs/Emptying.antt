-- All slots handed back: those that hold a unit are emptied, and an empty one is refused, so every slot is empty then.
use Prim.Native.Nat.{ℕ, zero, suc, ◌≤◌, ◌<◌}
use mathlib.Core.Path.{◌≡◌, refl, sym, ap, subst, ◌∙◌}
use mathlib.Core.List.{List}
use mathlib.Core.Logic.{◌≢◌}
use native.Mathlib.Decide.{ℕ_discrete}
use native.Mathlib.Omega.{arith}
use borrow.Author.Tests.{lt-leb}
use Rattle.bits.specs.Format.{basic, most_longest}
use Rattle.memory.specs.declared.Status.TheVariants as statuses
use Rattle.bits.specs.Machine.{run}
use Rattle.memory.specs.Lent.{status_of, length_of, with_slot, with_descriptor, empty_slot, status_word}
use Rattle.memory.proofs.Slots.{pool-length, descriptors-length, descriptor-written, descriptor-kept, empty-slot-length}
use Rattle.link.specs.Refusals.{first, read_number}
use Rattle.link.specs.Calls.{Outcome, outcome, hand_answer}
use Rattle.link.proofs.Answers.{done, readable}
use Rattle.link.proofs.Kept.{refused-hand-back}
use Rattle.link.specs.Held.{Held, handed_back}
use Rattle.readback.specs.Using.{InUse}
use Rattle.readback.specs.OneByOne.{slots_of}
use Rattle.readback.proofs.Using.{lent, can-read}

-- a slot that is empty, or holds a unit that can be handed back
pub data Returnable (descriptors : List ℕ) (slot : ℕ) : Type 0 where
  empty : status_of descriptors slot ≡ status_word statuses.Empty → Returnable descriptors slot
  full : status_of descriptors slot ≡ status_word statuses.Good → length_of descriptors slot ≤ most_longest basic → Returnable descriptors slot

-- what handing it back leaves: the slot is empty, every other as it was
record Emptied (k slot : ℕ) (descriptors : List ℕ) (h : Held) : Type 0 where
  used : InUse h
  size : h.link.settings.k ≡ k
  this : status_of h.descriptors slot ≡ status_word statuses.Empty
  others : (t : ℕ) → t ≢ slot → (status_of h.descriptors t ≡ status_of descriptors t) × (length_of h.descriptors t ≡ length_of descriptors t)

-- ---- one slot
module _ (h : Held) (slot : ℕ) (u : InUse h) (below : slot < h.link.settings.k) where
  abbrev k : ℕ
  k = h.link.settings.k

  abbrev held_in : Outcome → Held
  held_in o = record { link = o.link; pool = o.pool; descriptors = o.descriptors }

  -- refused
  unread : status_of h.descriptors slot ≡ status_word statuses.Empty → read_number h.link h.pool h.descriptors slot ≡ 13
  unfolding read_number first
  unread e = rw (u.formed, u.opened, u.fits, lt-leb k slot below, e)

  kept : status_of h.descriptors slot ≡ status_word statuses.Empty → Emptied k slot h.descriptors (handed_back h slot)
  kept e =
      subst (λ (o : Outcome). Emptied k slot h.descriptors (held_in o))
      (sym (refused-hand-back h.link h.pool h.descriptors slot (λ q. omega (arith, unread e, q))))
      (record { used = u; size = refl; this = e; others = λ t n. (refl, refl) })

  -- done
  abbrev then : Outcome
  then = outcome 0 h.link (with_slot basic h.pool slot (empty_slot basic)) (with_descriptor h.descriptors slot (status_word statuses.Empty) 0)

  answers : read_number h.link h.pool h.descriptors slot ≡ 0 → hand_answer h.link h.pool h.descriptors slot ≡ then
  unfolding hand_answer
  answers z = done _ _ _ z

  emptied : read_number h.link h.pool h.descriptors slot ≡ 0 → Emptied k slot h.descriptors (handed_back h slot)
  emptied z =
      let ok = readable h.link h.pool h.descriptors slot z in
      subst (λ (o : Outcome). Emptied k slot h.descriptors (held_in o)) (sym (answers z))
      (record {
        used =
            record {
              opened = u.opened;
              formed = u.formed;
              fits =
                  lent k then.pool then.descriptors
                  (pool-length basic h.pool (empty_slot basic) slot (empty-slot-length basic) (omega (arith, ok.octets, below)) ∙ ok.octets)
                  (descriptors-length h.descriptors slot (status_word statuses.Empty) 0 ∙ ok.words);
            };
        size = refl;
        this = (descriptor-written h.descriptors slot (status_word statuses.Empty) 0 (omega (arith, ok.words, below))).0;
        others = λ t n. descriptor-kept h.descriptors slot t (status_word statuses.Empty) 0 n;
      })

  one-back : Returnable h.descriptors slot → Emptied k slot h.descriptors (handed_back h slot)
  one-back (empty e) = kept e
  one-back (full e s) = emptied (can-read h slot u below e s)

-- ---- all slots
still-returnable : (ds es : List ℕ) (slot : ℕ) → (status_of es slot ≡ status_of ds slot) × (length_of es slot ≡ length_of ds slot) → Returnable ds slot
    → Returnable es slot
still-returnable ds es slot same (empty e) = empty (same.0 ∙ e)
still-returnable ds es slot same (full e s) = full (same.0 ∙ e) (omega (arith, same.1, s))

-- in use, and every slot empty
pub record Clear (k : ℕ) (h : Held) : Type 0 where
  pub used : InUse h
  pub size : h.link.settings.k ≡ k
  pub empty-each : (slot : ℕ) → slot < k → status_of h.descriptors slot ≡ status_word statuses.Empty

-- the first n are still to be handed back
pub all_back : (k n : ℕ) (h : Held) → InUse h → h.link.settings.k ≡ k → n ≤ k → ((slot : ℕ) → slot < n → Returnable h.descriptors slot)
    → ((slot : ℕ) → n ≤ slot → slot < k → status_of h.descriptors slot ≡ status_word statuses.Empty) → Clear k (run handed_back h (slots_of n))
unfolding slots_of
all_back k zero h u e few below above = record { used = u; size = e; empty-each = λ slot b. above slot (omega arith) b }
all_back k (suc n) h u e few below above =
    let r = one-back h n u (omega (arith, e, few)) (below n (omega arith)) in
    all_back k n (handed_back h n) r.used (r.size ∙ e) (omega arith)
    (λ slot b. still-returnable h.descriptors (handed_back h n).descriptors slot (r.others slot (omega arith)) (below slot (omega arith)))
    (λ slot a b. elim (ℕ_discrete slot n) [
      | yes p ↦ ap (λ (x : ℕ). status_of (handed_back h n).descriptors x) p ∙ r.this
      | no p ↦ (r.others slot p).0 ∙ above slot (omega (arith, p)) b
    ])
