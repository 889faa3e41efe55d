-- The filter by its memory drops exactly what the filter by the predecessors drops, and each dropped unit had its like handed over.
use Prim.Native.Nat.{ℕ, suc}
use mathlib.Core.Path.{◌≡◌, refl, sym, ap, ◌∙◌}
use mathlib.Core.Bool.{Bool, true, false, not, ◌&&◌, ◌||◌, false≢true}
use mathlib.Core.List.{List, [], ◌∷◌, reverse}
use borrow.Author.Tests.{not-true}
use Rattle.bits.specs.Format.{Format}
use Rattle.filter.specs.declared.Kind.{Kind}
use Rattle.filter.specs.declared.Kind.TheVariants.{FillIn, LinkStatus, Message}
use Rattle.filter.specs.Unit.{kind_of, alike}
use Rattle.filter.specs.Memory.{drops}
use Rattle.filter.specs.History.{FilterInput, good, command-4, memory_after}
use Rattle.filter.specs.Predecessors.{is_message, needs, row, dropped_after, none, more, HadItsLike}
use Rattle.filter.specs.Promises.{DroppedExactly, DroppedHadItsLike, LikeHandedOver}
use Rattle.filter.proofs.Likeness.{alike-transitive}
use Rattle.std.proofs.lemmas.Bool.{and_parts}
use Rattle.filter.proofs.Settling.{when-over, dropped-if}
use Rattle.filter.proofs.Held.{tells, drops-as}

-- the two filters drop the same
drops-after : (F : Format) (on : Bool) (mask : List ℕ) (hs : List FilterInput) (u : List ℕ)
    → drops F on mask (memory_after F on mask (reverse hs)) u ≡ on && dropped_after F mask hs u
drops-after F true mask hs u = drops-as F mask hs (memory_after F true mask (reverse hs)) (tells F mask hs) u
drops-after F false mask hs u = refl

pub dropped-exactly : DroppedExactly
dropped-exactly F on mask hs u free =
    let d = dropped-if F on mask (memory_after F on mask (reverse hs)) u free in
    let e = drops-after F on mask hs u in
    (λ h. sym e ∙ d.0 h, λ h. d.1 (e ∙ h))

-- ---- each dropped unit had its like handed over
module _ (F : Format) (mask : List ℕ) where
  -- a unit that is dropped has at least one like it directly before
  in_row : (hs : List FilterInput) (u : List ℕ) → dropped_after F mask hs u ≡ true → (k : ℕ) × (row F mask hs (suc k) u ≡ true)
  in_row hs u = go (kind_of F u)
    where
      go : (x : Kind) → needs x (λ j. row F mask hs j u) ≡ true → (k : ℕ) × (row F mask hs (suc k) u ≡ true)
      go FillIn r = (0, r)
      go LinkStatus r = (1, r)
      go Message r = (0, cc)

  module _ (hs : List FilterInput) (u v : List ℕ) (n : is_message (kind_of F v) ≡ false) (a : alike mask v u ≡ true) where
    -- the unit before was handed over: it is the like
    before-over : dropped_after F mask hs v ≡ false → HadItsLike F mask (good v true ∷ hs) u
    before-over q = record { like = v; between = []; older = hs; split = refl; not-dropped = q; is-like = a; unbroken = none }

    -- the unit before was dropped: its like is like u too
    before-dropped : (free : Bool) → dropped_after F mask hs v ≡ true → HadItsLike F mask hs v → HadItsLike F mask (good v free ∷ hs) u
    before-dropped free q h = record {
      like = h.like;
      between = good v free ∷ h.between;
      older = h.older;
      split = ap {B = List FilterInput} (λ l. good v free ∷ l) h.split;
      not-dropped = h.not-dropped;
      is-like = alike-transitive mask h.like v u h.is-like a;
      unbroken = more n (ap (λ (l : List FilterInput). dropped_after F mask l v || free) (sym h.split) ∙ ap (λ (b : Bool). b || free) q) h.unbroken;
    }

    before : (free : Bool) → dropped_after F mask hs v || free ≡ true → ((k : ℕ) → row F mask hs (suc k) v ≡ true → HadItsLike F mask hs v)
        → HadItsLike F mask (good v free ∷ hs) u
    before free d earlier = go (dropped_after F mask hs v) refl free d
      where
        go : (b : Bool) → dropped_after F mask hs v ≡ b → (free : Bool) → b || free ≡ true → HadItsLike F mask (good v free ∷ hs) u
        go true q free d =
            let r = in_row hs v q in
            before-dropped free q (earlier r.0 r.1)
        go false q true d = before-over q
        go false q false d = absurd (false≢true d)

  had-in-row : (hs : List FilterInput) (k : ℕ) (u : List ℕ) → row F mask hs (suc k) u ≡ true → HadItsLike F mask hs u
  unfolding row
  had-in-row [] k u r = absurd (false≢true r)
  had-in-row (good v free ∷ hs) k u r =
      let p = and_parts (not (is_message (kind_of F v))) (alike mask v u && ((dropped_after F mask hs v || free) && row F mask hs k u)) r in
      let q = and_parts (alike mask v u) ((dropped_after F mask hs v || free) && row F mask hs k u) p.1 in
      let d = and_parts (dropped_after F mask hs v || free) (row F mask hs k u) q.1 in
      before hs u v (not-true (is_message (kind_of F v)) p.0) q.0 free d.0 (λ j x. had-in-row hs j v x)
  had-in-row (command-4 ∷ hs) k u r = absurd (false≢true r)

pub dropped-had-its-like : DroppedHadItsLike
dropped-had-its-like F mask hs u d =
    let r = in_row F mask hs u d in
    had-in-row F mask hs r.0 u r.1

pub like-handed-over : LikeHandedOver
like-handed-over F mask hs u h =
    λ i. (when-over F true mask (memory_after F true mask (reverse h.older)) h.like (drops-after F true mask h.older h.like ∙ h.not-dropped) i).fate
