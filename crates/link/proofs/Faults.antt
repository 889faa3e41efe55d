-- A table of faults whose numbers rise gives the number of the first fault that is found, and 0 for none.
use Prim.Native.Nat.{ℕ, ◌<◌}
use mathlib.Core.Path.{◌≡◌, refl, sym, ap, ◌∙◌}
use mathlib.Core.Bool.{Bool, true, false, not}
use mathlib.Core.List.{List, [], ◌∷◌, ◌++◌, append-nil}
use native.Mathlib.Omega.{arith}
use lib.Dec.{ltb}
use borrow.Author.Tests.{ltb-true, not-true}
use Rattle.std.proofs.lemmas.Bool.{and_parts}
use Rattle.link.specs.Refusals.{Fault, fault, first}
use Rattle.link.specs.Tables.{none_found, rising}
use Rattle.link.specs.Promises.{FirstFault, NoFault, TablesRise}

-- where no fault is found, neither the first is, nor one of the rest
pub none : (b : Bool) (n : ℕ) (fs : List Fault) → (n ≡ 0 → ⊥) → first (fault b n ∷ fs) ≡ 0 → (b ≡ false) × (first fs ≡ 0)
unfolding first
none true n fs z e = absurd (z e)
none false n fs z e = (refl, e)

-- faults that are not found decide nothing
skip : (before rest : List Fault) → none_found before ≡ true → first (before ++ rest) ≡ first rest
unfolding first none_found
skip [] rest e = refl
skip (f ∷ fs) rest e =
    let p = and_parts (not f.found) (none_found fs) e in
    rw (not-true f.found p.0) (skip fs rest p.1)

-- ---- a table that rises from above m
step : (m : ℕ) (f : Fault) (fs : List Fault) → rising m (f ∷ fs) ≡ true → (m < f.number) × (rising f.number fs ≡ true)
unfolding rising
step m f fs r =
    let p = and_parts (ltb m f.number) (rising f.number fs) r in
    (ltb-true m f.number p.0, p.1)

-- what it gives is 0 or above m
above : (m : ℕ) (fs : List Fault) → rising m fs ≡ true → (first fs ≡ 0 → ⊥) → m < first fs
unfolding first
above m [] r z = absurd (z refl)
above m (f ∷ fs) r z = let s = step m f fs r in go f.found f.number s.0 (above f.number fs s.1) z
  where
    go : (b : Bool) (n : ℕ) → m < n → ((first fs ≡ 0 → ⊥) → n < first fs) → (first (fault b n ∷ fs) ≡ 0 → ⊥) → m < first (fault b n ∷ fs)
    go true n h rest z = h
    go false n h rest z = let k = rest z in omega arith

module _ (after : List Fault) (found : Bool) (n : ℕ) where
  -- and so is the number of each of its faults
  number-above : (m : ℕ) (before : List Fault) → rising m (before ++ (fault found n ∷ after)) ≡ true → m < n
  number-above m [] r = (step m (fault found n) after r).0
  number-above m (f ∷ fs) r =
      let s = step m f (fs ++ (fault found n ∷ after)) r in
      let h = number-above f.number fs s.1 in omega arith

  -- where a fault's number is given, that fault is found,
  at_head : (m : ℕ) → rising m (fault found n ∷ after) ≡ true → first (fault found n ∷ after) ≡ n → found ≡ true
  unfolding first
  at_head m r e = go found refl
    where
      go : (b : Bool) → found ≡ b → found ≡ true
      go true q = q
      go false q =
          let s = step m (fault found n) after r in
          let given : first after ≡ n = rw q at e in
          let h = above n after s.1 (λ z. omega arith) in absurd (omega arith)

  -- and none before it
  given : (m : ℕ) (before : List Fault) → rising m (before ++ (fault found n ∷ after)) ≡ true → first (before ++ (fault found n ∷ after)) ≡ n
      → (none_found before ≡ true) × (found ≡ true)
  unfolding first none_found
  given m [] r e = (refl, at_head m r e)
  given m (f ∷ fs) r e =
      let s = step m f (fs ++ (fault found n ∷ after)) r in
      let h = number-above f.number fs s.1 in
      let p = go f.found f.number h e in
      let q = given f.number fs s.1 p.1 in
      (rw p.0 q.0, q.1)
    where
      go : (b : Bool) (k : ℕ) → k < n → first (fault b k ∷ (fs ++ (fault found n ∷ after))) ≡ n → (b ≡ false) × (first (fs ++ (fault found n ∷ after)) ≡ n)
      go true k h e = absurd (omega arith)
      go false k h e = (refl, e)

pub first-fault : FirstFault
unfolding first
first-fault before after found n r = (
  given after found n 0 before r,
  λ p. skip before (fault found n ∷ after) p.0 ∙ rw p.1,
)

none_found_lem : (m : ℕ) (fs : List Fault) → rising m fs ≡ true → first fs ≡ 0 → none_found fs ≡ true
unfolding none_found
none_found_lem m [] r e = refl
none_found_lem m (f ∷ fs) r e =
    let s = step m f fs r in
    let q = none f.found f.number fs (λ z. omega arith) e in
    rw q.0 (none_found_lem f.number fs s.1 q.1)

pub no-fault : NoFault
unfolding first
no-fault fs r = (none_found_lem 0 fs r, λ e. sym (ap first (append-nil fs)) ∙ skip fs [] e)

pub tables-rise : TablesRise
unfolding rising
tables-rise l s pool descriptors command slot = (refl, refl, refl, refl)
