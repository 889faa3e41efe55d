-- The three ways that a good unit goes, and how the code comes to them.
use Prim.Native.Nat.{ℕ}
use mathlib.Core.Path.{◌≡◌, refl, sym, ap, ◌∙◌}
use mathlib.Core.Logic.{◌↔◌}
use mathlib.Core.Bool.{Bool, true, false, ◌&&◌, cond}
use mathlib.Core.List.{List}
use lib.Dec.{eqb}
use lib.ListN.{length, take}
use Rattle.bits.specs.Format.{Format, fill_in_octets}
use Rattle.filter.specs.declared.Kind.{Kind}
use Rattle.filter.specs.declared.Fate.TheVariants.{HandedOver, Dropped, Lost}
use Rattle.filter.specs.declared.Memory.{Memory}
use Rattle.filter.specs.declared.Settled.{Settled}
use Rattle.filter.specs.Unit.{kind_of, masked, same}
use Rattle.filter.specs.Memory.{empty_memory, holds_like, repeats, drops, forgets, remembers, settled}
use Rattle.filter.proofs.Likeness.{masked-first}

module _ (F : Format) where
  module _ (on : Bool) (mask : List ℕ) (m : Memory) (u : List ℕ) where
    pub when-dropped : (free : Bool) → drops F on mask m u ≡ true → settled F on mask m u free ≡ record { fate = Dropped; memory = m }
    unfolding settled
    when-dropped free d = rw d

    pub when-over : drops F on mask m u ≡ false → settled F on mask m u true ≡ record { fate = HandedOver; memory = remembers F on mask m u }
    unfolding settled
    when-over d = rw d

    pub when-lost : drops F on mask m u ≡ false → settled F on mask m u false ≡ record { fate = Lost; memory = empty_memory F }
    unfolding settled
    when-lost d = rw d

    pub dropped-if : (free : Bool) → ((settled F on mask m u free).fate ≡ Dropped) ↔ (drops F on mask m u ≡ true)
    dropped-if free = (go (drops F on mask m u) refl free, λ d. ap (λ (s : Settled). s.fate) (when-dropped free d))
      where
        go : (b : Bool) → drops F on mask m u ≡ b → (free : Bool) → (settled F on mask m u free).fate ≡ Dropped → drops F on mask m u ≡ true
        go true d free e = d
        go false d true e = let h = ap (λ (s : Settled). s.fate) (when-over d) in cc
        go false d false e = let h = ap (λ (s : Settled). s.fate) (when-lost d) in cc

    -- what the code has found of the unit: its length, its kind, its first octets under the mask, whether the memory holds its like, and whether it is dropped
    pub record Found (octets : ℕ) (kind : Kind) (five : List ℕ) (like dropped : Bool) : Type 0 where
      pub long : length u ≡ octets
      pub its-kind : kind ≡ kind_of F u
      pub its-five : five ≡ masked mask u
      pub its-like : like ≡ holds_like mask m u
      pub its-drop : dropped ≡ drops F on mask m u

    -- the unit is given to the code by its length and its first octets
    pub found : (first : List ℕ) (octets : ℕ) {kind : Kind} (five : List ℕ) {like dropped : Bool} → length mask ≡ fill_in_octets F → length u ≡ octets → take (fill_in_octets F) u ≡ first
        → kind ≡ kind_of F u → five ≡ masked mask first → like ≡ (eqb m.length octets && same m.octets five)
        → dropped ≡ (on && repeats kind like m.alike) → Found octets kind five like dropped
    found first octets five wide h t k f l d =
        let f' : five ≡ masked mask u = f ∙ ap (masked mask) (sym t) ∙ sym (masked-first (fill_in_octets F) mask u wide) in
        let l' = l ∙ (λ i. eqb m.length (sym h i) && same m.octets (f' i)) in
        record { long = h; its-kind = k; its-five = f'; its-like = l'; its-drop = d ∙ (λ i. on && repeats (k i) (l' i) m.alike) }

    module _ {octets : ℕ} {kind : Kind} {five : List ℕ} {like dropped : Bool} (x : Found octets kind five like dropped) where
      pub goes_dropped : (free : Bool) → dropped ≡ true → record { fate = Dropped; memory = m } ≡ settled F on mask m u free
      goes_dropped free d = sym (when-dropped free (sym x.its-drop ∙ d))

      pub goes_over : {free : Bool} {kept : Memory} → dropped ≡ false → free ≡ true
          → kept ≡ cond on (forgets F kind (record { length = octets; octets = five; alike = like })) (empty_memory F)
          → record { fate = HandedOver; memory = kept } ≡ settled F on mask m u free
      goes_over {free} {kept} d f k =
          let k' : kept ≡ remembers F on mask m u =
          k ∙ (λ i. cond on (forgets F (x.its-kind i) (record { length = sym x.long i; octets = x.its-five i; alike = x.its-like i })) (empty_memory F)) in
          sym (ap (settled F on mask m u) f ∙ when-over (sym x.its-drop ∙ d) ∙ (λ i. record { fate = HandedOver; memory = sym k' i }))

      pub goes-lost : {free : Bool} {kept : Memory} → dropped ≡ false → free ≡ false → kept ≡ empty_memory F → record { fate = Lost; memory = kept } ≡ settled F on mask m u free
      goes-lost {free} {kept} d f k =
          sym (ap (settled F on mask m u) f ∙ when-lost (sym x.its-drop ∙ d) ∙ (λ i. record { fate = Lost; memory = sym k i }))
