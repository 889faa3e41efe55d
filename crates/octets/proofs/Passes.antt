-- Octets passed by their rows leave the receiver of the definition.
use Prim.Native.Nat.{ℕ, ◌+◌, ◌-◌, ◌*◌, ◌/◌, ◌≤◌}
use mathlib.Core.Path.{◌≡◌, refl, sym, ap, ap₂, ◌∙◌}
use mathlib.Core.Bool.{Bool, true, false}
use mathlib.Core.List.{List, [], ◌++◌}
use native.Mathlib.Omega.{arith}
use lib.ListN.{length, take, length-append}
use lib.Seq.{take-take, length-take-le}
use Rattle.bits.specs.Octets.{line_bits, packed}
use Rattle.bits.proofs.Lines.{length-line_bits}
use Rattle.framing.specs.declared.Line.{Line}
use Rattle.framing.specs.Delimitation.{Receiver, inside, hunts, receiver_after, findings}
use Rattle.framing.specs.Representation.{decode, encode, encode_area}
use Rattle.framing.specs.InnerReading.{IsWellFormed}
use Rattle.framing.proofs.Encoding.{decodes-back}
use Rattle.framing.proofs.Ways.{held}
use Rattle.octets.specs.declared.Scan.{Scan}
use Rattle.octets.specs.Rows.{run_over, kept}
use Rattle.octets.specs.InnerScan.{Gathered, Hunted, Passes}
use Rattle.octets.proofs.Plain.{plain-inside, plain-hunting}
use Rattle.octets.proofs.Rows.{run-over-small}
use Rattle.octets.proofs.Rows.{kept-length}

-- gathered from the front of octets
gathered-front : (octets : List ℕ) (end run : ℕ) (g : List Bool) (r : Scan) (area : List ℕ) → end ≤ length octets
    → Gathered (take end octets) run g r area → Gathered octets run g r area
gathered-front octets end run g r area h t =
    let n : r.taken ≤ end = omega (arith, t.few, length-take-le end octets h) in
    let e : take r.taken (take end octets) ≡ take r.taken octets = take-take r.taken end octets n in
    record { few = omega arith; is_plain = rw e at t.is_plain; line = rw e at t.line; stands = rw e at t.stands }

module _ (M : ℕ) (l : Line) (octets area : List ℕ) (r : Scan) (area' : List ℕ) (m : M ≤ 278) (w : IsWellFormed M l area) where
  -- numbers and area that hold the receiver s
  passes : (s : Receiver) → s.run ≤ 7 → length s.gathered ≤ 8 * M + 7 → (s.hunting ≡ true → length s.gathered ≡ 0)
      → r.taken ≤ length octets → r.line ≡ encode s → area' ≡ encode_area s
      → (receiver_after M (decode l area) (line_bits (take r.taken octets)) ≡ s) × (findings M (decode l area) (line_bits (take r.taken octets)) ≡ [])
      → Passes M l octets area r area'
  passes s p g i f e a q =
      let b = decodes-back M s m p g i in
      record {
        few = f;
        receiver = ap₂ decode e a ∙ b.1 ∙ sym q.0;
        nothing = q.1;
        held = rw (e, a) b.0;
      }

  pub passes-hunting : l.hunting ≡ true → area' ≡ area → Hunted octets l.run r → Passes M l octets area r area'
  passes-hunting h a t =
      let bs = line_bits (take r.taken octets) in
      let z : take l.bits (line_bits area) ≡ [] = ap (λ (n : ℕ). take n (line_bits area)) (w.idle h) in
      let d : decode l area ≡ hunts l.run = ap₂ {C = Receiver} (λ x y. record { run = l.run; hunting = x; gathered = y }) h z in
      passes (hunts (run_over l.run bs)) (run-over-small l.run bs w.run≤7) (omega arith) (λ e. refl) t.few t.line (a ∙ w.zeroed ∙ ap (packed 279) z)
      (rw d (plain-hunting M l.run bs t.is_plain))

  -- of the octets up to `end`, in which the unit can't become long
  pub passes-inside : (end : ℕ) → end ≤ (M * 8 + 7 - l.bits) / 8 → end ≤ length octets → l.hunting ≡ false
      → Gathered (take end octets) l.run (take l.bits (line_bits area)) r area' → Passes M l octets area r area'
  passes-inside end u v h t =
      let g = take l.bits (line_bits area) in
      let n : r.taken ≤ end = omega (arith, t.few, length-take-le end octets v) in
      let q = gathered-front octets end l.run g r area' v t in
      let bs = line_bits (take r.taken octets) in
      let b : length g ≡ l.bits = held M l area m w in
      let k : length g + length bs ≤ 8 * M + 7 = omega (arith, length-line_bits (take r.taken octets), length-take-le r.taken octets q.few, w.room) in
      let d : decode l area ≡ inside l.run g = ap {B = Receiver} (λ x. record { run = l.run; hunting = x; gathered = g }) h in
      passes (inside (run_over l.run bs) (g ++ kept l.run bs)) (run-over-small l.run bs w.run≤7)
      (omega (arith, length-append g (kept l.run bs), kept-length l.run bs)) (λ e. cc) q.few q.line q.stands
      (rw d (plain-inside M l.run g bs q.is_plain k))
