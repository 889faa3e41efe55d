-- A closed unit at the front of the area, over plain values.
use Rattle.std.proofs.Common.{◌≡◌, ℕ, ◌+◌, ◌/◌, ◌≤◌, Bool, true, false, cond, ltb, List, length, take, sym, refl, ap, ◌∙◌, subst, arith, length-take-le, ltb-false}
use Rattle.bits.specs.Octets.{line_bits, packed, whole_octets, Octets}
use Rattle.bits.specs.Format.{basic}
use Rattle.bits.proofs.Lines.{length-line_bits}
use Rattle.bits.proofs.Packing.{length-packed, packed-octets}
use Rattle.bits.proofs.Whole.{whole-front}
use Rattle.framing.specs.declared.Verdict.{Verdict}
use Rattle.framing.specs.declared.Verdict.TheVariants.{Short, Good}
use Rattle.framing.specs.Verdict.{verdict_of}

-- a good unit has 40 bits or more
good-forty : (u : List Bool) → verdict_of basic u ≡ Good → 40 ≤ length u
unfolding verdict_of
good-forty u v = go (ltb (length u) 40) refl _ v
  where
    go : (b : Bool) → ltb (length u) 40 ≡ b → (other : Verdict) → cond b Short other ≡ Good → 40 ≤ length u
    go true p other w = let z : ◌≡◌ {A = ℕ} 0 1 = cc in absurd (omega arith)
    go false p other w = ltb-false (length u) 40 p

module _ (area : List ℕ) (bits : ℕ) (h : bits ≤ 2224) (e : area ≡ packed 279 (take (bits + 7) (line_bits area))) where
  area-length : length area ≡ 279
  area-length = ap length e ∙ length-packed 279 (take (bits + 7) (line_bits area))

  -- its whole octets are the area's first
  pub whole : whole_octets (take bits (line_bits area)) ≡ take (bits / 8) area
  whole =
      let o : Octets area = subst (λ (x : List ℕ). Octets x) (sym e) (packed-octets 279 (take (bits + 7) (line_bits area))) in
      whole-front bits area o (omega (arith, area-length))

  pub good-octets : verdict_of basic (take bits (line_bits area)) ≡ Good → 5 ≤ bits / 8
  good-octets v =
      let l : length (take bits (line_bits area)) ≡ bits = length-take-le bits (line_bits area) (omega (arith, length-line_bits area, area-length)) in
      omega (arith, good-forty (take bits (line_bits area)) v)
