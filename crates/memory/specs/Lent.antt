-- "The pool: K slots of 280 octets each; the descriptors, a lent run of 16-bit words, two for each slot: status, then length."
use Rattle.std.specs.Prelude.{ℕ, zero, suc, ◌+◌, ◌-◌, ◌*◌, Bool, true, cond, ◌&&◌, List, [], ◌∷◌, ◌++◌, eqb, length, replicate, get_or, take, drop, set}
use Rattle.bits.specs.Format.{Format}
use Rattle.memory.specs.declared.Status.{Status}
use Rattle.memory.specs.declared.Status.TheVariants.{Empty, Good, CheckWrong, NotWhole}

-- every octet, or word, is zero
unfoldable pub zeros : List ℕ → Bool
zeros [] = true
zeros (x ∷ xs) = eqb x 0 && zeros xs

-- all of it zeroed
unfoldable pub wiped : List ℕ → List ℕ
wiped xs = replicate (length xs) 0

-- "Status 32768 = empty, 0 = good unit, 1 = check wrong, 2 = not whole octets"
abbrev pub status_word : Status → ℕ
status_word Empty = 32768
status_word Good = 0
status_word CheckWrong = 1
status_word NotWhole = 2

-- each of k slots empty, with length 0
unfoldable pub empty_descriptors : ℕ → List ℕ
empty_descriptors zero = []
empty_descriptors (suc k) = status_word Empty ∷ 0 ∷ empty_descriptors k

-- a slot's status and length
abbrev pub status_of : List ℕ → ℕ → ℕ
status_of descriptors slot = get_or descriptors (2 * slot) 0

abbrev pub length_of : List ℕ → ℕ → ℕ
length_of descriptors slot = get_or descriptors (2 * slot + 1) 0

-- the descriptors with another status and length for a slot
unfoldable pub with_descriptor : List ℕ → ℕ → ℕ → ℕ → List ℕ
with_descriptor descriptors slot status count = set (set descriptors (2 * slot) status) (2 * slot + 1) count

module _ (F : Format) where
  -- the octets of a slot, 280
  abbrev pub slot_of : List ℕ → ℕ → List ℕ
  slot_of pool slot = take F.slot (drop (F.slot * slot) pool)

  -- the pool with other octets in a slot
  unfoldable pub with_slot : List ℕ → ℕ → List ℕ → List ℕ
  with_slot pool slot octets = take (F.slot * slot) pool ++ (octets ++ drop (F.slot * slot + F.slot) pool)

  -- a unit's octets, "the rest of the 280 zero"
  unfoldable pub filled : List ℕ → List ℕ
  filled unit = unit ++ replicate (F.slot - length unit) 0

  -- an empty slot
  unfoldable pub empty_slot : List ℕ
  empty_slot = replicate F.slot 0

-- "next slot moves on, round the ring" of k slots
unfoldable pub next_slot : ℕ → ℕ → ℕ
next_slot k next = cond (eqb (next + 1) k) 0 (next + 1)
