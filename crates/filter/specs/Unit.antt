-- A unit is the list of its octets, check octets included. Its kind, and when two are alike.
use Rattle.std.specs.Prelude.{ℕ, Bool, true, false, ◌&&◌, ◌||◌, cond, List, [], ◌∷◌, eqb, length}
use Rattle.std.specs.Int.Bits.{bit_and}
use Rattle.bits.specs.Format.{Format, fill_in_octets, status_octets, long_status_octets}
use Rattle.filter.specs.declared.Kind.{Kind}
use Rattle.filter.specs.declared.Kind.TheVariants.{FillIn, LinkStatus, Message}

-- "The kind comes from length: 5 octets is fill-in, 6 or 7 link status, more is message."
unfoldable pub kind_of : Format → List ℕ → Kind
kind_of F u =
    cond (eqb (length u) (fill_in_octets F)) FillIn
    (cond (eqb (length u) (status_octets F) || eqb (length u) (long_status_octets F)) LinkStatus Message)

-- the first octets of a unit under a mask, as many as the mask has
unfoldable pub masked : List ℕ → List ℕ → List ℕ
masked [] u = []
masked (m ∷ ms) [] = []
masked (m ∷ ms) (x ∷ u) = bit_and x m ∷ masked ms u

-- two lists have the same octets
unfoldable pub same : List ℕ → List ℕ → Bool
same [] [] = true
same [] (y ∷ ys) = false
same (x ∷ xs) [] = false
same (x ∷ xs) (y ∷ ys) = eqb x y && same xs ys

-- "Two units are alike if they have equal length and equal first five octets under the mask."
abbrev pub alike : List ℕ → List ℕ → List ℕ → Bool
alike mask u v = eqb (length u) (length v) && same (masked mask u) (masked mask v)
