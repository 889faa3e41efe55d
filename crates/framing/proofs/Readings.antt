-- Reading bits up to a finding: its laws, and a turn of the loop.
use Prim.Native.Nat.{ℕ, ◌≤◌}
use mathlib.Core.Path.{◌≡◌, refl, sym, ap, subst, ◌∙◌}
use mathlib.Core.Bool.{Bool, true, false}
use mathlib.Core.List.{List, [], ◌∷◌, ◌++◌}
use native.Mathlib.Omega.{arith}
use Rattle.std.specs.Prelude.{Option, None, Some, is_some}
use Rattle.bits.specs.Octets.{bits_of}
use Rattle.framing.specs.declared.Line.{Line}
use Rattle.framing.specs.declared.Found.{Found}
use Rattle.framing.specs.declared.Step.{Step}
use Rattle.framing.specs.Delimitation.{Receiver, Finding, closed, abort, long, step_bit, next, finds, receiver_after, findings}
use Rattle.framing.specs.InnerReading.{Reading, read_on, reading, Holds, IsWellFormed, shows, standing, Stepped, FedTo}
use Rattle.framing.specs.Representation.{decode}
use Rattle.framing.specs.Promises.{ReadingAfter, ReadingFindings}

-- ---- what a reading leaves is to be read on
pub reading-after : ReadingAfter
unfolding reading
reading-after M [] s = refl
reading-after M (b ∷ bs) s = go (finds M s b) (reading-after M bs (next M s b))
  where
    go : (fs : List Finding) → receiver_after M (reading M (next M s b) bs).state (reading M (next M s b) bs).rest ≡ receiver_after M (next M s b) bs
        → receiver_after M (read_on fs (next M s b) bs (reading M (next M s b) bs)).state (read_on fs (next M s b) bs (reading M (next M s b) bs)).rest ≡ receiver_after M (next M s b) bs
    go [] ih = ih
    go (f ∷ fs) ih = refl

pub reading-findings : ReadingFindings
unfolding reading
reading-findings M [] s = refl
reading-findings M (b ∷ bs) s = go (finds M s b) (reading-findings M bs (next M s b))
  where
    later : Reading
    later = reading M (next M s b) bs

    go : (fs : List Finding) → later.found ++ findings M later.state later.rest ≡ findings M (next M s b) bs
        → (read_on fs (next M s b) bs later).found ++ findings M (read_on fs (next M s b) bs later).state (read_on fs (next M s b) bs later).rest ≡ fs ++ findings M (next M s b) bs
    go [] ih = ih
    go (f ∷ fs) ih = refl

-- ---- a turn of the loop
quiet : (fs : List Finding) (s : Receiver) (bs : List Bool) (later : Reading) → is_some (shows fs) ≡ false → read_on fs s bs later ≡ later
quiet [] s bs later q = refl
quiet (closed u ∷ fs) s bs later q = cc
quiet (abort ∷ fs) s bs later q = cc
quiet (long ∷ fs) s bs later q = cc

loud : (fs : List Finding) (s : Receiver) (bs : List Bool) (later : Reading) → is_some (shows fs) ≡ true
    → read_on fs s bs later ≡ record { state = s; found = fs; rest = bs }
loud [] s bs later q = cc
loud (f ∷ fs) s bs later q = refl

as-gathered : (f : Option Found) (n : ℕ) → is_some f ≡ false → standing f n ≡ n
as-gathered None n q = refl
as-gathered (Some f) n q = cc

module _ (M : ℕ) (goal : Reading) (cur : Line) (area : List ℕ) where
  module _ (b : Bool) (bs : List Bool) (e : reading M (decode cur area) (b ∷ bs) ≡ goal)
      (r : Step) (area' : List ℕ) (st : Stepped M (step_bit M (decode cur area) b) r area') where
    s : Receiver
    s = decode cur area

    pub quiet-round : is_some r.found ≡ false → (reading M (decode r.line area') bs ≡ goal) × IsWellFormed M r.line area'
    unfolding reading s
    quiet-round q =
        let k : is_some (shows (finds M s b)) ≡ false = ap is_some (sym st.found) ∙ q in (
          ap (λ (x : Receiver). reading M x bs) st.state ∙ sym (quiet (finds M s b) (next M s b) bs (reading M (next M s b) bs) k) ∙ e,
          subst (λ (n : ℕ). Holds M r.line n area') (as-gathered r.found r.line.bits q) st.holds,
        )

    pub loud-round : is_some r.found ≡ true → (octet left : ℕ) → bits_of left octet ≡ bs → left ≤ 8
        → FedTo M goal (record { step = r; octet = octet; left = left }) area'
    unfolding reading s
    loud-round q octet left o f =
        let k : is_some (shows (finds M s b)) ≡ true = ap is_some (sym st.found) ∙ q in
        let g : goal ≡ record { state = next M s b; found = finds M s b; rest = bs } = sym e ∙ loud (finds M s b) (next M s b) bs (reading M (next M s b) bs) k in
        rw g (record { step = st; rest = o; few = f })

  pub at-end : reading M (decode cur area) [] ≡ goal → IsWellFormed M cur area → (octet : ℕ)
      → FedTo M goal (record { step = record { line = cur; found = None }; octet = octet; left = 0 }) area
  unfolding reading bits_of
  at-end e w octet = rw (sym e) (record { step = record { state = refl; found = refl; unit = refl; holds = w }; rest = refl; few = omega arith })
