-- The laws of slots and descriptors that specs/Promises.antt states.
use Prim.Native.Nat.{ℕ, zero, suc, ◌+◌, ◌-◌, ◌*◌, ◌<◌, ◌≤◌}
use mathlib.Core.Path.{◌≡◌, refl, sym, ap, ap₂, ◌∙◌}
use mathlib.Core.Bool.{Bool, true, false, cond}
use mathlib.Core.List.{List, [], ◌∷◌, ◌++◌, append_assoc}
use mathlib.Core.Logic.{◌≢◌}
use native.Mathlib.Nat.{not-suc-le-zero, mul-suc, mul-le-mul_left}
use native.Mathlib.Decide.{dec_lt}
use native.Mathlib.Omega.{arith}
use borrow.Author.Tests.{eqb-true, eqb-false}
use lib.Dec.{eqb}
use lib.ListN.{length, get_or, take, drop, set, replicate, length-append, length-drop, length-set, length-replicate, take-append-drop}
use lib.Seq.{length-take-le, take-append-le, take-append_seam, take_at, drop-append-le, drop_at, drop-drop, get_or-set_same, get_or-set_other}
use Rattle.std.proofs.lemmas.Bool.{and_parts}
use Rattle.bits.specs.Format.{Format}
use Rattle.memory.specs.Lent.{zeros, wiped, empty_descriptors, slot_of, with_slot, with_descriptor, filled, empty_slot, next_slot}
use Rattle.memory.specs.Promises.{SlotWritten, SlotKept, PoolLength, DescriptorWritten, DescriptorKept, DescriptorsLength, EmptyLength, EmptyEach, ZerosExact, WipedZeros, EmptySlotLength, FilledLength, FilledFront, NextBelow}

-- ---- a slot written
-- a slot before another ends where that one begins, or before
slots_apart : (n t s : ℕ) → t < s → n * t + n ≤ n * s
slots_apart n t s h = omega (arith, mul-suc n t, mul-le-mul_left n h)

module _ (F : Format) where
  -- a slot within the front of a list
  front : (p r : List ℕ) (t : ℕ) → F.slot * t + F.slot ≤ length p → slot_of F (p ++ r) t ≡ slot_of F p t
  front p r t h =
      ap (take F.slot) (drop-append-le (F.slot * t) p r (omega arith))
      ∙ take-append-le F.slot (drop (F.slot * t) p) r (omega (arith, length-drop (F.slot * t) p))

  module _ (pool octets : List ℕ) (s : ℕ) (l : length octets ≡ F.slot) (h : F.slot * s + F.slot ≤ length pool) where
    abbrev from : ℕ
    from = F.slot * s

    before : length (take from pool) ≡ from
    before = length-take-le from pool (omega arith)

    written : slot_of F (with_slot F pool s octets) s ≡ octets
    unfolding with_slot
    written =
        ap (take F.slot) (drop_at (take from pool) (octets ++ drop (from + F.slot) pool) from before)
        ∙ take_at octets (drop (from + F.slot) pool) F.slot l

    long : length (with_slot F pool s octets) ≡ length pool
    unfolding with_slot
    long =
        omega (
          arith,
          length-append (take from pool) (octets ++ drop (from + F.slot) pool),
          length-append octets (drop (from + F.slot) pool),
          length-drop (from + F.slot) pool,
          before,
        )

    -- what stands after the slot is what stood there
    after : drop (from + F.slot) (with_slot F pool s octets) ≡ drop (from + F.slot) pool
    unfolding with_slot
    after =
        ap (drop (from + F.slot)) (sym (append_assoc (take from pool) octets (drop (from + F.slot) pool)))
        ∙ drop_at (take from pool ++ octets) (drop (from + F.slot) pool) (from + F.slot)
        (omega (arith, length-append (take from pool) octets, before))

    kept-before : (t : ℕ) → t < s → slot_of F (with_slot F pool s octets) t ≡ slot_of F pool t
    unfolding with_slot
    kept-before t k =
        let e : F.slot * t + F.slot ≤ length (take from pool) = omega (arith, before, slots_apart F.slot t s k) in
        front (take from pool) (octets ++ drop (from + F.slot) pool) t e
        ∙ sym (front (take from pool) (drop from pool) t e)
        ∙ ap (λ (x : List ℕ). slot_of F x t) (take-append-drop from pool)

    kept-after : (t : ℕ) → s < t → slot_of F (with_slot F pool s octets) t ≡ slot_of F pool t
    kept-after t k =
        let e : from + F.slot + (F.slot * t - (from + F.slot)) ≡ F.slot * t = omega (arith, slots_apart F.slot s t k) in
        let on : (x : List ℕ) → drop (F.slot * t - (from + F.slot)) (drop (from + F.slot) x) ≡ drop (F.slot * t) x = λ x. drop-drop (F.slot * t - (from + F.slot)) (from + F.slot) x ∙ ap (λ (n : ℕ). drop n x) e in
        ap (take F.slot) (sym (on (with_slot F pool s octets)) ∙ ap (drop (F.slot * t - (from + F.slot))) after ∙ on pool)

pub slot-written : SlotWritten
slot-written = written

pub slot_kept : SlotKept
slot_kept F pool octets s t l h n =
    elim (dec_lt t s) [
      | yes k ↦ kept-before F pool octets s l h t k
      | no k ↦ kept-after F pool octets s l h t (omega arith)
    ]

pub pool-length : PoolLength
pool-length = long

-- ---- descriptors written
pub descriptors-length : DescriptorsLength
unfolding with_descriptor
descriptors-length d s status count = length-set (set d (2 * s) status) (2 * s + 1) count ∙ length-set d (2 * s) status

-- at a place that is neither of the slot's two
aside : (d : List ℕ) (s status count j : ℕ) → j ≢ 2 * s → j ≢ 2 * s + 1 → get_or (with_descriptor d s status count) j 0 ≡ get_or d j 0
unfolding with_descriptor
aside d s status count j a b =
    get_or-set_other (set d (2 * s) status) (2 * s + 1) j count 0 b ∙ get_or-set_other d (2 * s) j status 0 a

pub descriptor-written : DescriptorWritten
unfolding with_descriptor
descriptor-written d s status count h =
    let one : List ℕ = set d (2 * s) status in (
      get_or-set_other one (2 * s + 1) (2 * s) count 0 (omega arith) ∙ get_or-set_same d (2 * s) status 0 (omega arith),
      get_or-set_same one (2 * s + 1) count 0 (omega (arith, length-set d (2 * s) status)),
    )

pub descriptor-kept : DescriptorKept
descriptor-kept d s t status count n = (
  aside d s status count (2 * t) (omega arith) (omega arith),
  aside d s status count (2 * t + 1) (omega arith) (omega arith),
)

-- ---- descriptors of empty slots
pub empty-length : EmptyLength
unfolding empty_descriptors
empty-length zero = refl
empty-length (suc k) = omega (arith, empty-length k)

pub empty-each : EmptyEach
unfolding empty_descriptors
empty-each zero s h = absurd (not-suc-le-zero h)
empty-each (suc k) zero h = (refl, refl)
empty-each (suc k) (suc s) h =
    let e : 2 * suc s ≡ suc (suc (2 * s)) = omega arith in
    let f : 2 * suc s + 1 ≡ suc (suc (2 * s + 1)) = omega arith in
    rw (f, e) (empty-each k s (omega arith))

-- ---- zeros
pub zeros-replicate : (n : ℕ) → zeros (replicate n 0) ≡ true
unfolding zeros
zeros-replicate zero = refl
zeros-replicate (suc n) = zeros-replicate n

all-zero : (xs : List ℕ) → zeros xs ≡ true → xs ≡ replicate (length xs) 0
unfolding zeros
all-zero [] e = refl
all-zero (x ∷ xs) e =
    let p = and_parts (eqb x 0) (zeros xs) e in
    ap₂ {C = List ℕ} (λ a b. a ∷ b) (eqb-true x 0 p.0) (all-zero xs p.1)

pub zeros-exact : ZerosExact
zeros-exact xs = (all-zero xs, λ e. ap zeros e ∙ zeros-replicate (length xs))

pub wiped-zeros : WipedZeros
unfolding wiped
wiped-zeros xs = zeros-replicate (length xs)

-- ---- a slot's octets: empty, or a unit
pub empty-slot-length : EmptySlotLength
unfolding empty_slot
empty-slot-length F = length-replicate {A = ℕ} F.slot 0

pub filled-length : FilledLength
unfolding filled
filled-length F unit h =
    omega (arith, length-append unit (replicate (F.slot - length unit) 0), length-replicate {A = ℕ} (F.slot - length unit) 0)

pub filled-front : FilledFront
unfolding filled
filled-front F unit = take-append_seam unit (replicate (F.slot - length unit) 0)

-- ---- the ring
pub next-below : NextBelow
unfolding next_slot
next-below k next h = go (eqb (next + 1) k) refl
  where
    go : (b : Bool) → eqb (next + 1) k ≡ b → cond b 0 (next + 1) < k
    go true e = omega arith
    go false e = let n = eqb-false (next + 1) k e in omega arith
