-- All that the proofs use of how a unit's kind comes from its octets.
use Prim.Native.Nat.{ℕ, ◌≤◌}
use mathlib.Core.Path.{◌≡◌, refl}
use mathlib.Core.Bool.{Bool, true, false, ◌||◌, cond}
use mathlib.Core.List.{List}
use native.Mathlib.Omega.{arith}
use lib.Dec.{eqb}
use lib.ListN.{length}
use borrow.Author.Tests.{eqb-true, ne_eqb}
use Rattle.bits.specs.Format.{Format, fill_in_octets, status_octets, long_status_octets}
use Rattle.filter.specs.declared.Kind.{Kind}
use Rattle.filter.specs.declared.Kind.TheVariants.{FillIn, LinkStatus, Message}
use Rattle.filter.specs.Unit.{kind_of}
use Rattle.filter.specs.Predecessors.{is_message}

module _ (F : Format) where
  -- ---- from the kind to the length
  module _ (u : List ℕ) where
    pub fill-in-length : kind_of F u ≡ FillIn → length u ≡ fill_in_octets F
    unfolding kind_of
    fill-in-length k = go (eqb (length u) (fill_in_octets F)) refl (eqb (length u) (status_octets F) || eqb (length u) (long_status_octets F)) k
      where
        go : (a : Bool) → eqb (length u) (fill_in_octets F) ≡ a → (b : Bool) → cond a FillIn (cond b LinkStatus Message) ≡ FillIn → length u ≡ fill_in_octets F
        go true e b k = eqb-true (length u) (fill_in_octets F) e
        go false e true k = cc
        go false e false k = cc

    pub status-length : kind_of F u ≡ LinkStatus → (status_octets F ≤ length u) × (length u ≤ long_status_octets F)
    unfolding kind_of
    status-length k = go (eqb (length u) (fill_in_octets F)) (eqb (length u) (status_octets F)) refl (eqb (length u) (long_status_octets F)) refl k
      where
        go : (a b : Bool) → eqb (length u) (status_octets F) ≡ b → (c : Bool) → eqb (length u) (long_status_octets F) ≡ c
            → cond a FillIn (cond (b || c) LinkStatus Message) ≡ LinkStatus → (status_octets F ≤ length u) × (length u ≤ long_status_octets F)
        go true b e c f k = absurd (cc)
        go false true e c f k = omega (arith, eqb-true (length u) (status_octets F) e)
        go false false e true f k = omega (arith, eqb-true (length u) (long_status_octets F) f)
        go false false e false f k = absurd (cc)

  -- ---- what follows of likeness
  -- an empty memory, which has length 0, holds no unit like one that is no message
  pub not_none : (u : List ℕ) → is_message (kind_of F u) ≡ false → eqb 0 (length u) ≡ false
  not_none u h = go (kind_of F u) refl h
    where
      go : (k : Kind) → kind_of F u ≡ k → is_message k ≡ false → eqb 0 (length u) ≡ false
      go FillIn e h = ne_eqb 0 (length u) (omega (arith, fill-in-length u e))
      go LinkStatus e h = ne_eqb 0 (length u) (omega (arith, (status-length u e).0))
      go Message e h = cc

  -- a fill-in unit and a link status unit have different lengths
  pub lengths_differ : (u v : List ℕ) → kind_of F u ≡ FillIn → kind_of F v ≡ LinkStatus → eqb (length u) (length v) ≡ false
  lengths_differ u v f s = ne_eqb (length u) (length v) (omega (arith, fill-in-length u f, (status-length v s).0))
