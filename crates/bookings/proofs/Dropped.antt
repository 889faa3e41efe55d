-- A dropped unit had its like handed over: the filter's law, oldest first, at the inputs of a booking.
use Prim.Native.Nat.{ℕ, zero, suc}
use mathlib.Core.Path.{◌≡◌, refl, sym, ap, subst, ◌∙◌}
use mathlib.Core.Bool.{Bool, true, false, ◌||◌, cond}
use mathlib.Core.List.{List, [], ◌∷◌, ◌++◌, append_assoc, reverse, reverse-cons, reverse-append, reverse-reverse}
use lib.ListN.{length, get_or}
use Rattle.bits.specs.Format.{basic}
use Rattle.bits.specs.Machine.{run, outs}
use Rattle.filter.specs.declared.Fate.{Fate}
use Rattle.filter.specs.declared.Fate.TheVariants.{HandedOver, Dropped, Lost}
use Rattle.filter.specs.declared.Memory.{Memory}
use Rattle.filter.specs.Unit.{kind_of}
use Rattle.filter.specs.Memory.{empty_memory, drops, settled}
use Rattle.filter.specs.History.{FilterInput, good, command-4, memory_next, fate_of, memory_after, fates}
use Rattle.filter.specs.Predecessors.{is_message, dropped_after, Unbroken, more}
use Rattle.filter.specs.Predecessors.{HadItsLike as LikeBefore}
use Rattle.filter.proofs.ByPredecessors.{dropped-exactly, dropped-had-its-like, like-handed-over}
use Rattle.board.specs.declared.Settings.{Settings}
use Rattle.calls.specs.Call.{link_after}
use Rattle.std.proofs.Math.Bool.{or-false}
use Rattle.std.proofs.lemmas.Bool.{and_parts, and_from}
use Rattle.bookings.specs.Booking.{booking_after}
use Rattle.bookings.specs.History.{units_of}
use Rattle.bookings.specs.Dropped.{fate_after, Keeps, HadItsLike, DroppedInBooking}
use Rattle.bookings.proofs.History.{histories}

-- ---- lists turned round
abbrev Inputs : Type 0
Inputs = List FilterInput

-- the fate after inputs, from the same inputs with the last first
turned : (s : Settings) (hs : Inputs) (v : List ℕ) (free : Bool) → fate_after s (reverse (reverse hs)) v free ≡ fate_after s hs v free
turned s hs v free = ap (λ (x : Inputs). fate_after s x v free) (reverse-reverse hs)

not-lost : (b : Bool) (f : Fate) → f ≡ cond b Dropped HandedOver → f ≡ Lost → ⊥
not-lost true f p q = cc
not-lost false f p q = cc

-- a unit whose slot is free, or that is dropped, is not lost
free-fate : (on : Bool) (mask : List ℕ) (m : Memory) (v : List ℕ) → (settled basic on mask m v true).fate ≡ cond (drops basic on mask m v) Dropped HandedOver
unfolding settled
free-fate on mask m v = go (drops basic on mask m v) refl
  where
    go : (b : Bool) → drops basic on mask m v ≡ b → (settled basic on mask m v true).fate ≡ cond b Dropped HandedOver
    go true e = rw e
    go false e = rw e

never-lost : (s : Settings) (before : Inputs) (v : List ℕ) (free : Bool) → s.filter ≡ true → dropped_after basic s.mask (reverse before) v || free ≡ true
    → ¬ (fate_after s before v free ≡ Lost)
never-lost s before v true on d lost =
    not-lost (drops basic s.filter s.mask (memory_after basic s.filter s.mask before) v) _ (free-fate s.filter s.mask (memory_after basic s.filter s.mask before) v) lost
never-lost s before v false on d lost =
    let both = and_from s.filter _ on (sym (or-false (dropped_after basic s.mask (reverse before) v)) ∙ d) in
    not-lost true _ (sym (turned s before v false) ∙ (dropped-exactly basic s.filter s.mask (reverse before) v false).1 both) lost

-- what an unbroken row says of one of its inputs
unbroken-at : (mask : List ℕ) (older p : Inputs) (x : FilterInput) (q : Inputs) → Unbroken basic mask older (p ++ (x ∷ q))
    → (v : List ℕ) × (free : Bool) × (x ≡ good v free) × (is_message (kind_of basic v) ≡ false) × (dropped_after basic mask (q ++ older) v || free ≡ true)
unbroken-at mask older [] x q (more {v = v} {free = free} m d rest) = (v, free, refl, m, d)
unbroken-at mask older (y ∷ p) x q (more m d rest) = unbroken-at mask older p x q rest

-- ---- the filter's law with the oldest input first
module _ (s : Settings) (on : s.filter ≡ true) (before : Inputs) (u : List ℕ) (h : LikeBefore basic s.mask (reverse before) u) where
  abbrev older' : Inputs
  older' = reverse h.older

  abbrev between' : Inputs
  between' = reverse h.between

  abbrev the-like : FilterInput
  the-like = good h.like true

  split-turned : before ≡ older' ++ (the-like ∷ between')
  split-turned =
      sym (reverse-reverse before) ∙ ap reverse h.split ∙ reverse-append h.between (the-like ∷ h.older)
      ∙ ap (λ (x : Inputs). x ++ between') (reverse-cons the-like h.older) ∙ append_assoc older' (the-like ∷ []) between'

  was-over : fate_after s older' h.like true ≡ HandedOver
  was-over = ap (λ (b : Bool). (settled basic b s.mask (memory_after basic b s.mask older') h.like true).fate) on ∙ like-handed-over basic s.mask (reverse before) u h

  keeps : (a : Inputs) (x : FilterInput) (b : Inputs) → between' ≡ a ++ (x ∷ b) → Keeps s (older' ++ (the-like ∷ a)) x
  keeps a x b e =
      let back : h.between ≡ reverse b ++ (x ∷ reverse a) =
      sym (reverse-reverse h.between) ∙ ap reverse e ∙ reverse-append a (x ∷ b) ∙ ap (λ (y : Inputs). y ++ reverse a) (reverse-cons x b) ∙ append_assoc (reverse b) (x ∷ []) (reverse a) in
      let at = unbroken-at s.mask (the-like ∷ h.older) (reverse b) x (reverse a) (subst (Unbroken basic s.mask (the-like ∷ h.older)) back h.unbroken) in
      subst (Keeps s (older' ++ (the-like ∷ a))) (sym at.2) (
        at.3,
        never-lost s (older' ++ (the-like ∷ a)) at.0 at.1 on (subst (λ (y : Inputs). dropped_after basic s.mask y at.0 || at.1 ≡ true) (sym (whole a)) at.4),
      )
    where
      whole : (a : Inputs) → reverse (older' ++ (the-like ∷ a)) ≡ reverse a ++ (the-like ∷ h.older)
      whole a =
          reverse-append older' (the-like ∷ a) ∙ ap (λ (y : Inputs). y ++ reverse older') (reverse-cons the-like a)
          ∙ append_assoc (reverse a) (the-like ∷ []) (reverse older') ∙ ap (λ (y : Inputs). reverse a ++ (the-like ∷ y)) (reverse-reverse h.older)

  had-its-like : HadItsLike s before u
  had-its-like = record { older = older'; like = h.like; between = between'; split = split-turned; over = was-over; is-like = h.is-like; kept = keeps }

-- ---- the unit of a fate
module _ (on : Bool) (mask : List ℕ) where
  abbrev remember : Memory → FilterInput → Memory
  remember = memory_next basic on mask

  abbrev fate : Memory → FilterInput → List Fate
  fate = fate_of basic on mask

  -- the unit with fate k, where that is Dropped
  record UnitAt (m : Memory) (xs : Inputs) (k : ℕ) : Type 0 where
    before : Inputs
    unit : List ℕ
    free : Bool
    after : Inputs
    is : xs ≡ before ++ (good unit free ∷ after)
    place : length (units_of before) ≡ k
    dropped : (settled basic on mask (run remember m before) unit free).fate ≡ Dropped

  behind : (m : Memory) (x : FilterInput) (xs : Inputs) (k k' : ℕ) → ((b : Inputs) → length (units_of b) ≡ k → length (units_of (x ∷ b)) ≡ k')
      → UnitAt (remember m x) xs k → UnitAt m (x ∷ xs) k'
  behind m x xs k k' n r =
      record {
        before = x ∷ r.before;
        unit = r.unit;
        free = r.free;
        after = r.after;
        is = ap (λ (y : Inputs). x ∷ y) r.is;
        place = n r.before r.place;
        dropped = r.dropped;
      }

  unit-at : (xs : Inputs) (m : Memory) (k : ℕ) → get_or (outs remember fate m xs) k HandedOver ≡ Dropped → UnitAt m xs k
  unfolding units_of
  unit-at [] m k e = cc
  unit-at (good u free ∷ xs) m zero e = record { before = []; unit = u; free = free; after = xs; is = refl; place = refl; dropped = e }
  unit-at (good u free ∷ xs) m (suc k) e =
      behind m (good u free) xs k (suc k) (λ b p. ap suc p) (unit-at xs (remember m (good u free)) k e)
  unit-at (command-4 ∷ xs) m k e = behind m command-4 xs k k (λ b p. p) (unit-at xs (remember m command-4) k e)

  -- and the fate of a unit that stands among them
  fate-at : (before : Inputs) (m : Memory) (u : List ℕ) (free : Bool) (after : Inputs)
      → get_or (outs remember fate m (before ++ (good u free ∷ after))) (length (units_of before)) Lost ≡ (settled basic on mask (run remember m before) u free).fate
  unfolding units_of
  fate-at [] m u free after = refl
  fate-at (good v f ∷ before) m u free after = fate-at before (remember m (good v f)) u free after
  fate-at (command-4 ∷ before) m u free after = fate-at before (remember m command-4) u free after

pub dropped-in-booking : DroppedInBooking
unfolding memory_after fates
dropped-in-booking cs k e =
    let s = (link_after cs).settings in
    let xs = (booking_after cs).inputs in
    let t = (histories cs).fated in
    let x = unit-at s.filter s.mask xs (empty_memory basic) k (ap (λ (fs : List Fate). get_or fs k HandedOver) (sym t) ∙ e) in
    let d = and_parts _ _ ((dropped-exactly basic s.filter s.mask (reverse x.before) x.unit x.free).0 (turned s x.before x.unit x.free ∙ x.dropped)) in
    let h = had-its-like s d.0 x.before x.unit (dropped-had-its-like basic s.mask (reverse x.before) x.unit d.1) in
    record {
      before = x.before;
      unit = x.unit;
      free = x.free;
      after = x.after;
      is = x.is;
      place = x.place;
      filter-on = d.0;
      like = h;
      told =
          ap (λ (fs : List Fate). get_or fs (length (units_of h.older)) Lost) t
          ∙ ap (λ (ys : Inputs). get_or (fates basic s.filter s.mask ys) (length (units_of h.older)) Lost)
          (x.is ∙ ap (λ (ys : Inputs). ys ++ (good x.unit x.free ∷ x.after)) h.split ∙ append_assoc h.older (good h.like true ∷ h.between) (good x.unit x.free ∷ x.after))
          ∙ fate-at s.filter s.mask h.older (empty_memory basic) h.like true (h.between ++ (good x.unit x.free ∷ x.after)) ∙ h.over;
    }
