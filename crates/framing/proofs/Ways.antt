-- Each way out of the one-bit step, over plain values.
use Prim.Native.Nat.{ℕ, ◌+◌, ◌-◌, ◌*◌, ◌≤◌, ◌<◌}
use mathlib.Core.Path.{◌≡◌, refl, sym, ap, ap₂, ◌∙◌}
use mathlib.Core.Bool.{Bool, true, false, cond}
use mathlib.Core.List.{List, [], ◌∷◌, ◌++◌}
use native.Mathlib.Omega.{arith}
use lib.ListN.{length, take, set}
use lib.Seq.{length-take-le, take-take}
use lib.Dec.{ltb}
use Rattle.std.specs.Prelude.{Option, None, Some}
use Rattle.std.proofs.lemmas.Bool.{false_from_ne_true}
use borrow.Author.Tests.{lt-ltb, le-ltb}
use Rattle.bits.specs.Octets.{line_bits, packed}
use Rattle.bits.proofs.Digits.{snoc-length}
use Rattle.bits.proofs.Packing.{unpack, held-length, zero-first}
use Rattle.framing.specs.declared.Line.{Line}
use Rattle.framing.specs.declared.Found.{Found}
use Rattle.framing.specs.declared.Found.TheVariants.{Closed, Long}
use Rattle.framing.specs.declared.Step.{Step}
use Rattle.framing.specs.Delimitation.{inside, unit, gather, flag}
use Rattle.framing.specs.Representation.{line_of, decode}
use Rattle.framing.specs.InnerReading.{Holds, IsWellFormed, shows, unit_in, Stepped}

abbrev pub step_of : Line → Option Found → Step
step_of l f = record { line = l; found = f }

-- an area with no bits
idle-holds : (M r : ℕ) (h : Bool) (area : List ℕ) → r ≤ 7 → area ≡ packed 279 [] → Holds M (line_of r h 0) 0 area
idle-holds M r h area p e = record { run≤7 = p; room = omega arith; idle = λ _. refl; fits = omega arith; zeroed = e }

-- the gathered bits are as many as the line says
pub held : (M : ℕ) (l : Line) (area : List ℕ) → M ≤ 278 → IsWellFormed M l area → length (take l.bits (line_bits area)) ≡ l.bits
held M l area m w = held-length 279 l.bits area (omega (arith, w.room)) w.zeroed

-- ---- a bit inside a unit
module _ (M : ℕ) (l : Line) (b : Bool) (area area' : List ℕ) (m : M ≤ 278) (w : IsWellFormed M l area) where
  g : List Bool
  g = take l.bits (line_bits area)

  pub long-way : l.hunting ≡ false → M * 8 + 7 ≤ l.bits → area' ≡ packed 279 []
      → Stepped M (gather M (decode l area) l.run b) (step_of (line_of l.run true 0) (Some Long)) area'
  long-way h n e =
      let k : ltb (8 * M + 7) (length (take l.bits (line_bits area)) + 1) ≡ true = lt-ltb (8 * M + 7) (length (take l.bits (line_bits area)) + 1) (omega (arith, held M l area m w)) in
      record { state = rw (h, k); found = rw (h, k); unit = rw (h, k); holds = idle-holds M l.run true area' w.run≤7 e }

  pub gathered-way : l.hunting ≡ false → l.bits < M * 8 + 7 → area' ≡ packed 279 (take l.bits (line_bits area) ++ (b ∷ []))
      → Stepped M (gather M (decode l area) l.run b) (step_of (line_of l.run l.hunting (l.bits + 1)) None) area'
  unfolding g
  gathered-way h n e =
      let k : length g ≡ l.bits = held M l area m w in
      let f : ltb (8 * M + 7) (length (take l.bits (line_bits area)) + 1) ≡ false = le-ltb (8 * M + 7) (length (take l.bits (line_bits area)) + 1) (omega arith) in
      let s : length (g ++ (b ∷ [])) ≡ l.bits + 1 = snoc-length g b ∙ ap (λ (x : ℕ). x + 1) k in
      let t : take (l.bits + 1) (line_bits area') ≡ g ++ (b ∷ []) =
      ap₂ (λ (x : ℕ) (y : List ℕ). take x (line_bits y)) (sym s) e ∙ unpack 279 (g ++ (b ∷ [])) (omega arith) in
      record {
        state = rw (h, f) (ap (inside l.run) t);
        found = rw (h, f);
        unit = rw (h, f);
        holds = record { run≤7 = w.run≤7; room = omega arith; idle = λ q. cc; fits = omega arith; zeroed = e ∙ ap (packed 279) (sym t) };
      }

-- ---- a flag: the unit is what was gathered less its last seven bits
unit-shows : (g : List Bool) → 0 < length g → shows (unit g) ≡ Some (Closed (length g))
unit-shows [] h = absurd (omega arith)
unit-shows (x ∷ g) h = refl

unit-in : (g : List Bool) → unit_in (unit g) ≡ g
unit-in [] = refl
unit-in (x ∷ g) = refl

module _ (M : ℕ) (l : Line) (area area' : List ℕ) (m : M ≤ 278) (w : IsWellFormed M l area) where
  abbrev pub whole : List Bool
  whole = take l.bits (line_bits area)

  unit-length : length (take (length whole - 7) whole) ≡ l.bits - 7
  unit-length = length-take-le (length whole - 7) whole (omega arith) ∙ ap (λ (x : ℕ). x - 7) (held M l area m w)

  flag-nothing : (h : Bool) → l.bits ≤ 7 → cond h [] (unit (take (length whole - 7) whole)) ≡ []
  flag-nothing true p = refl
  flag-nothing false p = let e : length whole - 7 ≡ 0 = omega (arith, held M l area m w) in ap (λ (n : ℕ). unit (take n whole)) e

  -- up to seven bits stand in the first octet
  pub flag-none : l.bits ≤ 7 → area' ≡ set area 0 0 → Stepped M (flag (decode l area)) (step_of (line_of 0 false 0) None) area'
  flag-none p e =
      let n : cond l.hunting [] (unit (take (length whole - 7) whole)) ≡ [] = flag-nothing l.hunting p in
      let z : area' ≡ packed 279 [] = e ∙ ap (λ (a : List ℕ). set a 0 0) w.zeroed ∙ zero-first 278 whole (omega (arith, held M l area m w)) in
      record { state = refl; found = rw n; unit = rw n; holds = idle-holds M 0 false area' (omega arith) z }

  pub flag-closed : 7 < l.bits → Stepped M (flag (decode l area)) (step_of (line_of 0 false 0) (Some (Closed (l.bits - 7)))) area
  flag-closed p =
      let h : l.hunting ≡ false = false_from_ne_true l.hunting (λ t. omega (arith, w.idle t)) in
      let k : length whole ≡ l.bits = held M l area m w in
      let u : List Bool = take (length whole - 7) whole in
      let e : length u ≡ l.bits - 7 = unit-length in
      let s : l.bits - 7 + 7 ≡ l.bits = omega arith in
      record {
        state = refl;
        found = rw h (ap (λ (n : ℕ). Some (Closed n)) (sym e) ∙ sym (unit-shows u (omega arith)));
        unit = rw (h, unit-in u) (ap (λ (n : ℕ). take n (line_bits area)) (e ∙ ap (λ (n : ℕ). n - 7) (sym k)) ∙ sym (take-take (length whole - 7) l.bits (line_bits area) (omega arith)));
        holds = record { run≤7 = omega arith; room = omega arith; idle = λ _. refl; fits = omega (arith, w.room); zeroed = rw s w.zeroed };
      }
