-- The sixteen octets of a record, one by one.
use Prim.Native.Nat.{ℕ, ◌≤◌, ◌/◌, ◌%◌}
use mathlib.Core.Path.{◌≡◌, refl, sym, ap}
use mathlib.Core.Bool.{Bool, true, false}
use mathlib.Core.List.{List, [], ◌∷◌}
use lib.ListN.{length, get_or}
use native.Mathlib.Omega.{arith}
use Rattle.bits.specs.Octets.{worth}
use Rattle.records.specs.declared.RecordKind.{RecordKind}
use Rattle.records.specs.declared.RecordKind.TheVariants.{HandedOver, Dropped, Lost, CheckWrong, NotWhole, Short, Long, Abort, Tick}
use Rattle.records.specs.Kinds.{kind_number}
use Rattle.records.specs.Record.{low-high, record_of}
use Rattle.recordview_lines.specs.declared.records_read.Record.{Record}
use Rattle.recordview_lines.specs.Reading.{octets_of}

kind_few : (k : RecordKind) → kind_number k ≤ 8
kind_few HandedOver = omega arith
kind_few Dropped = omega arith
kind_few Lost = omega arith
kind_few CheckWrong = omega arith
kind_few NotWhole = omega arith
kind_few Short = omega arith
kind_few Long = omega arith
kind_few Abort = omega arith
kind_few Tick = omega arith

worth_few : (b : Bool) → worth b ≤ 1
worth_few true = omega arith
worth_few false = omega arith

five : (xs : List ℕ) → length xs ≡ 5 → xs ≡ get_or xs 0 0 ∷ get_or xs 1 0 ∷ get_or xs 2 0 ∷ get_or xs 3 0 ∷ get_or xs 4 0 ∷ []
five (a ∷ b ∷ c ∷ d ∷ e ∷ []) _ = refl
five _ n = absurd (omega (arith, n))

sixteen : (xs : List ℕ) → length xs ≡ 16
    → xs
    ≡ get_or xs 0 0 ∷ get_or xs 1 0 ∷ get_or xs 2 0 ∷ get_or xs 3 0 ∷ get_or xs 4 0 ∷ get_or xs 5 0 ∷ get_or xs 6 0 ∷ get_or xs 7 0
    ∷ get_or xs 8 0 ∷ get_or xs 9 0 ∷ get_or xs 10 0 ∷ get_or xs 11 0 ∷ get_or xs 12 0 ∷ get_or xs 13 0 ∷ get_or xs 14 0 ∷ get_or xs 15 0 ∷ []
sixteen (a ∷ b ∷ c ∷ d ∷ e ∷ f ∷ g ∷ h ∷ i ∷ j ∷ k ∷ l ∷ m ∷ n ∷ o ∷ p ∷ []) _ = refl
sixteen _ n = absurd (omega (arith, n))

-- what stands where in a record's octets
pub record Places (r : Record) (xs : List ℕ) : Type 0 where
  pub kind : get_or xs 0 0 ≤ 8
  pub lost : get_or xs 1 0 ≤ 1
  pub alarm : get_or xs 13 0 ≤ 1
  pub low : get_or xs 14 0 ≡ 0
  pub high : get_or xs 15 0 ≡ 0

of_five : (r : Record) (a b c d e : ℕ) → r.first ≡ a ∷ b ∷ c ∷ d ∷ e ∷ [] → Places r (octets_of r)
unfolding record_of
of_five r a b c d e f = rw f (record { kind = kind_few r.kind; lost = worth_few r.lost; alarm = worth_few r.alarm; low = refl; high = refl })

pub places : (r : Record) (xs : List ℕ) → length r.first ≡ 5 → octets_of r ≡ xs → Places r xs
places r xs e is = rw (sym is) (of_five r _ _ _ _ _ (five r.first e))

pub whole : (xs : List ℕ) (k : RecordKind) (lost alarm : Bool) (length' count good spare : ℕ) → length xs ≡ 16
    → kind_number k ≡ get_or xs 0 0 → worth lost ≡ get_or xs 1 0
    → low-high length' ≡ get_or xs 2 0 ∷ get_or xs 3 0 ∷ [] → low-high count ≡ get_or xs 4 0 ∷ get_or xs 5 0 ∷ []
    → low-high good ≡ get_or xs 6 0 ∷ get_or xs 7 0 ∷ [] → worth alarm ≡ get_or xs 13 0
    → low-high spare ≡ get_or xs 14 0 ∷ get_or xs 15 0 ∷ [] → spare ≡ 0
    → octets_of
    (record {
      kind = k;
      lost = lost;
      length = length';
      count = count;
      good = good;
      first = get_or xs 8 0 ∷ get_or xs 9 0 ∷ get_or xs 10 0 ∷ get_or xs 11 0 ∷ get_or xs 12 0 ∷ [];
      alarm = alarm;
    })
    ≡ xs
unfolding record_of
whole xs k lost alarm length' count good spare n e0 e1 e2 e4 e6 e13 e14 z =
    let f2 : length' % 256 ≡ get_or xs 2 0 = ap (λ (ys : List ℕ). get_or ys 0 0) e2 in
    let f3 : length' / 256 ≡ get_or xs 3 0 = ap (λ (ys : List ℕ). get_or ys 1 0) e2 in
    let f4 : count % 256 ≡ get_or xs 4 0 = ap (λ (ys : List ℕ). get_or ys 0 0) e4 in
    let f5 : count / 256 ≡ get_or xs 5 0 = ap (λ (ys : List ℕ). get_or ys 1 0) e4 in
    let f6 : good % 256 ≡ get_or xs 6 0 = ap (λ (ys : List ℕ). get_or ys 0 0) e6 in
    let f7 : good / 256 ≡ get_or xs 7 0 = ap (λ (ys : List ℕ). get_or ys 1 0) e6 in
    let s14 : spare % 256 ≡ get_or xs 14 0 = ap (λ (ys : List ℕ). get_or ys 0 0) e14 in
    let s15 : spare / 256 ≡ get_or xs 15 0 = ap (λ (ys : List ℕ). get_or ys 1 0) e14 in
    let f14 : 0 ≡ get_or xs 14 0 = omega (arith, z, s14) in
    let f15 : 0 ≡ get_or xs 15 0 = omega (arith, z, s15) in
    let all = sixteen xs n in
    cc

-- the two octets at the end of a record are zero
pub spare_zero : (r : Record) (xs : List ℕ) (w : ℕ) → length r.first ≡ 5 → octets_of r ≡ xs → low-high w ≡ get_or xs 14 0 ∷ get_or xs 15 0 ∷ [] → w ≡ 0
spare_zero r xs w five is e =
    let p = places r xs five is in
    let low : w % 256 ≡ get_or xs 14 0 = ap (λ (ys : List ℕ). get_or ys 0 0) e in
    let high : w / 256 ≡ get_or xs 15 0 = ap (λ (ys : List ℕ). get_or ys 1 0) e in
    omega (arith, low, high, p.low, p.high)
