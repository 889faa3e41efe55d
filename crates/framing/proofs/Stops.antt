-- Where a reading stops: one finding at most, just after a flag if a unit was closed, and nearer to the end.
use Prim.Native.Nat.{ℕ, suc, ◌+◌, ◌*◌, ◌≤◌, ◌<◌, min}
use mathlib.Core.Path.{◌≡◌, refl, ◌∙◌}
use mathlib.Core.Bool.{Bool, true, false, cond}
use mathlib.Core.List.{List, [], ◌∷◌}
use native.Mathlib.Omega.{arith}
use lib.ListN.{length}
use lib.Dec.{eqb, ltb}
use Rattle.framing.specs.Delimitation.{Receiver, Finding, closed, abort, long, hunts, flagged, gather, flag, step_bit, next, finds}
use Rattle.framing.specs.InnerReading.{Reading, read_on, reading}
use Rattle.framing.proofs.Bound.{finds-single}

-- ---- one bit that closes a unit leaves the receiver just after a flag
-- the finding is no closed unit
abbrev Unclosed : List Finding → Type 0
Unclosed [] = Unit {0}
Unclosed (closed u ∷ fs) = ⊥
Unclosed (abort ∷ fs) = Unit {0}
Unclosed (long ∷ fs) = Unit {0}

-- either it is none, or the receiver is just after a flag
abbrev AtFlag : Receiver × List Finding → Type 0
AtFlag st = (u : List Bool) (fs : List Finding) → st.1 ≡ closed u ∷ fs → st.0 ≡ flagged

unclosed : (st : Receiver × List Finding) → Unclosed st.1 → AtFlag st
unclosed st n u fs e = absurd (go st.1 e n)
  where
    go : (gs : List Finding) → gs ≡ closed u ∷ fs → Unclosed gs → ⊥
    go [] q n = cc
    go (closed v ∷ gs) q n = n
    go (abort ∷ gs) q n = cc
    go (long ∷ gs) q n = cc

gather-flag : (M : ℕ) (s : Receiver) (r : ℕ) (b : Bool) → AtFlag (gather M s r b)
gather-flag M s r b = go s.hunting refl (ltb (8 * M + 7) (length s.gathered + 1)) refl
  where
    go : (h : Bool) → s.hunting ≡ h → (t : Bool) → ltb (8 * M + 7) (length s.gathered + 1) ≡ t → AtFlag (gather M s r b)
    go true e t q = unclosed (gather M s r b) (rw e tt)
    go false e true q = unclosed (gather M s r b) (rw (e, q) tt)
    go false e false q = unclosed (gather M s r b) (rw (e, q) tt)

step-flag : (M : ℕ) (s : Receiver) (b : Bool) → AtFlag (step_bit M s b)
unfolding step_bit
step-flag M s true = go (eqb s.run 6) refl
  where
    go : (t : Bool) → eqb s.run 6 ≡ t → AtFlag (cond (eqb s.run 6) (hunts 7, abort ∷ []) (gather M s (min (s.run + 1) 7) true))
    go true e = rw e (unclosed (hunts 7, abort ∷ []) tt)
    go false e = rw e (gather-flag M s (min (s.run + 1) 7) true)
step-flag M s false = go (eqb s.run 5) refl (eqb s.run 6) refl
  where
    stay : Receiver
    stay = record { run = 0; hunting = s.hunting; gathered = s.gathered }

    go : (t : Bool) → eqb s.run 5 ≡ t → (v : Bool) → eqb s.run 6 ≡ v
        → AtFlag (cond (eqb s.run 5) (stay, []) (cond (eqb s.run 6) (flag s) (gather M s 0 false)))
    go true e v q = rw e (unclosed (stay, []) tt)
    go false e true q = rw (e, q) (λ u fs w. refl)
    go false e false q = rw (e, q) (gather-flag M s 0 false)

-- ---- the same of a reading
pub reading-single : (M : ℕ) (bs : List Bool) (s : Receiver) → length (reading M s bs).found ≤ 1
unfolding reading
reading-single M [] s = omega arith
reading-single M (b ∷ bs) s = go (finds M s b) (finds-single M s b) (reading-single M bs (next M s b))
  where
    go : (fs : List Finding) → length fs ≤ 1 → length (reading M (next M s b) bs).found ≤ 1 → length (read_on fs (next M s b) bs (reading M (next M s b) bs)).found ≤ 1
    go [] l ih = ih
    go (f ∷ fs) l ih = l

pub reading-flag : (M : ℕ) (bs : List Bool) (s : Receiver) (u : List Bool) (fs : List Finding)
    → (reading M s bs).found ≡ closed u ∷ fs → (reading M s bs).state ≡ flagged
unfolding reading
reading-flag M [] s u fs e = cc
reading-flag M (b ∷ bs) s u fs e = go (finds M s b) refl (λ v gs q. reading-flag M bs (next M s b) v gs q) e
  where
    later : Reading
    later = reading M (next M s b) bs

    go : (hs : List Finding) → finds M s b ≡ hs → ((v : List Bool) (gs : List Finding) → later.found ≡ closed v ∷ gs → later.state ≡ flagged)
        → (read_on hs (next M s b) bs later).found ≡ closed u ∷ fs → (read_on hs (next M s b) bs later).state ≡ flagged
    go [] q ih w = ih u fs w
    go (h ∷ hs) q ih w = step-flag M s b u fs (q ∙ w)

pub reading-shorter : (M : ℕ) (bs : List Bool) (s : Receiver) → 0 < length bs → length (reading M s bs).rest < length bs
unfolding reading
reading-shorter M [] s h = absurd (omega arith)
reading-shorter M (b ∷ []) s h = go (finds M s b)
  where
    go : (fs : List Finding) → length (read_on fs (next M s b) [] (reading M (next M s b) [])).rest < 1
    go [] = omega arith
    go (f ∷ fs) = omega arith
reading-shorter M (b ∷ c ∷ bs) s h = go (finds M s b) (reading-shorter M (c ∷ bs) (next M s b) (omega arith))
  where
    go : (fs : List Finding) → length (reading M (next M s b) (c ∷ bs)).rest < suc (length bs)
        → length (read_on fs (next M s b) (c ∷ bs) (reading M (next M s b) (c ∷ bs))).rest < suc (suc (length bs))
    go [] ih = omega arith
    go (f ∷ fs) ih = omega arith
