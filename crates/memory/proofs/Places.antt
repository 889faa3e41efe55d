-- What stands at each place of what the loops write, and the code's reckoning of places against the definitions'.
use Prim.Native.Nat.{ℕ, min, ◌+◌, ◌-◌, ◌*◌, ◌<◌, ◌≤◌}
use mathlib.Core.Path.{◌≡◌, sym, ap, ◌∙◌}
use mathlib.Core.List.{List, ◌++◌, append-nil}
use native.Mathlib.Decide.{dec_le}
use native.Mathlib.Omega.{arith}
use borrow.Rule.Slice.PartMut.{mid_of, put_mid, Post-is, mid_len}
use lib.ListN.{length, take, drop, replicate, length-append, length-drop, drop_of_length-le}
use lib.Seq.{take-append_seam, take_all}
use Rattle.bits.specs.Format.{basic}
use Rattle.memory.specs.declared.Status.TheVariants.{Empty}
use Rattle.memory.specs.Lent.{status_word, empty_descriptors, with_slot, with_descriptor, filled, empty_slot, wiped}
use Rattle.memory.proofs.Slots.{empty-length, empty-each}
use Rattle.memory.proofs.Loops.{Written, write-more}

-- ---- what stands from a place on
pub from-on : (l : List ℕ) (from m : ℕ) → m ≡ min from (length l) → take (length l - m) (drop m l) ≡ drop from l
from-on l from m e =
    elim (dec_le from (length l)) [
      | yes h ↦
          let k : m ≡ from = omega arith in
          take_all (length l - m) (drop m l) (omega (arith, length-drop m l)) ∙ ap (λ (n : ℕ). drop n l) k
      | no h ↦
          take_all (length l - m) (drop m l) (omega (arith, length-drop m l)) ∙ drop_of_length-le l {i = m} (omega arith) ∙ sym (drop_of_length-le l {i = from} (omega arith))
    ]

-- ---- one more slot marked empty
pub mark-more : {k i : ℕ} {d s t : List ℕ} → Written (empty_descriptors k) d s (2 * i) → i < k → t ≡ with_descriptor s i (status_word Empty) 0
    → Written (empty_descriptors k) d t (2 * (i + 1))
unfolding with_descriptor
mark-more {k} {i} {d} {s} {t} w h e =
    let l = empty-length k in
    let v = empty-each k i h in
    let two : 2 * i + 1 + 1 ≡ 2 * (i + 1) = omega arith in
    let w1 = write-more w {v = status_word Empty} (omega (arith, w.long, w.sized, l)) (sym v.0) in
    let w2 = write-more w1 {v = 0} (omega (arith, w1.long, w.sized, l)) (sym v.1) in
    rw (e, ← two) w2

-- ---- a unit put at the front of a slot, then all behind it wiped
pub fill-rest : (unit slot : List ℕ) {front rest : List ℕ} → length slot ≡ 280 → length unit ≤ 280 → front ≡ unit
    → let n = length unit in
    let all : List ℕ = front ++ drop n slot in
    rest ≡ wiped (mid_of n (length all - n) all) → put_mid n (length all - n) all rest ≡ filled basic unit
unfolding wiped filled
fill-rest unit slot s u e w =
    let n = length unit in
    let all : List ℕ = unit ++ drop n slot in
    let long : length all ≡ 280 = omega (arith, length-append unit (drop n slot), length-drop n slot) in
    rw (w, e, long, mid_len n 280 all (omega (arith, long)), Post-is n 280 all u, drop_of_length-le all {i = 280} (omega (arith, long)), take-append_seam unit (drop n slot), append-nil)

-- ---- a slot's part of the pool
module _ (pool : List ℕ) (s from : ℕ) (at : from ≡ 280 * s) where
  pub part_length : 280 * s + 280 ≤ length pool → length (mid_of from (from + 280 - from) pool) ≡ 280
  part_length h = mid_len from (from + 280) pool (omega arith) ∙ omega arith

  pub put-slot : {ys octets : List ℕ} → ys ≡ octets → put_mid from (from + 280 - from) pool ys ≡ with_slot basic pool s octets
  unfolding with_slot
  put-slot e = rw (e, Post-is from (from + 280) pool (omega arith), at)

-- what was wiped of 280 octets
pub wiped-slot : (l : List ℕ) → length l ≡ 280 → wiped l ≡ empty_slot basic
unfolding wiped empty_slot
wiped-slot l e = ap (λ (n : ℕ). replicate {A = ℕ} n 0) e
