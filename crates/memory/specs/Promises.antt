-- What is promised of the lent memory. The proofs are in proofs/Slots.antt.
use Rattle.std.specs.Prelude.{ℕ, ◌+◌, ◌*◌, ◌≤◌, ◌<◌, ◌≡◌, true, List, ◌↔◌, ◌≢◌, length, replicate, take}
use Rattle.bits.specs.Format.{Format}
use Rattle.memory.specs.declared.Status.TheVariants.{Empty}
use Rattle.memory.specs.Lent.{zeros, wiped, status_word, empty_descriptors, status_of, length_of, slot_of, with_slot, with_descriptor, filled, empty_slot, next_slot}

-- A slot written holds the octets that were written,
abbrev pub SlotWritten : Type 0
SlotWritten =
    (F : Format) (pool octets : List ℕ) (s : ℕ) → length octets ≡ F.slot → F.slot * s + F.slot ≤ length pool → slot_of F (with_slot F pool s octets) s ≡ octets

-- every other slot holds what it held,
abbrev pub SlotKept : Type 0
SlotKept =
    (F : Format) (pool octets : List ℕ) (s t : ℕ) → length octets ≡ F.slot → F.slot * s + F.slot ≤ length pool → t ≢ s
    → slot_of F (with_slot F pool s octets) t ≡ slot_of F pool t

-- and the pool is as long as it was.
abbrev pub PoolLength : Type 0
PoolLength =
    (F : Format) (pool octets : List ℕ) (s : ℕ) → length octets ≡ F.slot → F.slot * s + F.slot ≤ length pool → length (with_slot F pool s octets) ≡ length pool

-- Descriptors written have the slot's new status and length,
abbrev pub DescriptorWritten : Type 0
DescriptorWritten =
    (descriptors : List ℕ) (s status count : ℕ) → 2 * s + 2 ≤ length descriptors
    → (status_of (with_descriptor descriptors s status count) s ≡ status) × (length_of (with_descriptor descriptors s status count) s ≡ count)

-- those of every other slot as they were,
abbrev pub DescriptorKept : Type 0
DescriptorKept =
    (descriptors : List ℕ) (s t status count : ℕ) → t ≢ s
    → (status_of (with_descriptor descriptors s status count) t ≡ status_of descriptors t)
    × (length_of (with_descriptor descriptors s status count) t ≡ length_of descriptors t)

-- and as many words.
abbrev pub DescriptorsLength : Type 0
DescriptorsLength =
    (descriptors : List ℕ) (s status count : ℕ) → length (with_descriptor descriptors s status count) ≡ length descriptors

-- The descriptors of k empty slots are 2k words, and each slot is empty with length 0.
abbrev pub EmptyLength : Type 0
EmptyLength = (k : ℕ) → length (empty_descriptors k) ≡ 2 * k

abbrev pub EmptyEach : Type 0
EmptyEach =
    (k s : ℕ) → s < k → (status_of (empty_descriptors k) s ≡ status_word Empty) × (length_of (empty_descriptors k) s ≡ 0)

-- The test for zeros holds exactly of octets or words that are all zero, so it holds of what was wiped.
abbrev pub ZerosExact : Type 0
ZerosExact = (xs : List ℕ) → (zeros xs ≡ true) ↔ (xs ≡ replicate (length xs) 0)

abbrev pub WipedZeros : Type 0
WipedZeros = (xs : List ℕ) → zeros (wiped xs) ≡ true

-- An empty slot has as many octets as the format says,
abbrev pub EmptySlotLength : Type 0
EmptySlotLength = (F : Format) → length (empty_slot F) ≡ F.slot

-- a unit of up to so many fills a slot, and stands at its front.
abbrev pub FilledLength : Type 0
FilledLength = (F : Format) (unit : List ℕ) → length unit ≤ F.slot → length (filled F unit) ≡ F.slot

abbrev pub FilledFront : Type 0
FilledFront = (F : Format) (unit : List ℕ) → take (length unit) (filled F unit) ≡ unit

-- The slot after one of k slots is one of them.
abbrev pub NextBelow : Type 0
NextBelow = (k next : ℕ) → next < k → next_slot k next < k
