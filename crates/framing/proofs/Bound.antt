-- Eight bits bring at most two findings, from M = 7 on.
use Prim.Native.Nat.{ℕ, zero, suc, ◌+◌, ◌-◌, ◌*◌, ◌≤◌, ◌<◌, min}
use mathlib.Core.Path.{◌≡◌, refl}
use mathlib.Core.Bool.{Bool, true, false, cond}
use mathlib.Core.List.{List, [], ◌∷◌, ◌++◌}
use native.Mathlib.Omega.{arith}
use lib.ListN.{length, take, length-append}
use lib.Dec.{eqb, ltb}
use borrow.Author.Tests.{lt-ltb, le-ltb, eqb-true, eqb-false, ltb-true, ltb-false}
use Rattle.bits.specs.Octets.{bits_of}
use Rattle.bits.proofs.Digits.{snoc-length, length-bits_of}
use Rattle.framing.specs.Delimitation.{Receiver, Finding, abort, hunts, unit, gather, flag, step_bit, next, finds, findings}
use Rattle.framing.specs.Promises.{TwoFindings}

-- the ones that a flag or an abort would use
abbrev spent : ℕ → ℕ
spent r = cond (ltb r 7) r 0

spent-low : (r : ℕ) → r < 7 → spent r ≡ r
spent-low r h = rw (lt-ltb r 7 h)

spent-high : (r : ℕ) → 7 ≤ r → spent r ≡ 0
spent-high r h = rw (le-ltb r 7 h)

spent-le : (r : ℕ) → spent r ≤ 6
spent-le r = go (ltb r 7) refl
  where
    go : (t : Bool) → ltb r 7 ≡ t → spent r ≤ 6
    go true e = omega (arith, ltb-true r 7 e, spent-low r (ltb-true r 7 e))
    go false e = omega (arith, spent-high r (ltb-false r 7 e))

-- what a step may do: it pays seven ones for a finding, gathers at most one bit, and holds none after a finding
record Pays (M : ℕ) (s : Receiver) (st : Receiver × List Finding) : Type 0 where
  single : length st.1 ≤ 1
  pays : length s.gathered + 1 ≤ 8 * M + 7 → 7 * length st.1 + spent st.0.run ≤ spent s.run + 1
  grows : length st.0.gathered ≤ length s.gathered + 1
  empties : 0 < length st.1 → length st.0.gathered ≡ 0

unit-single : (g : List Bool) → length (unit g) ≤ 1
unit-single [] = omega arith
unit-single (b ∷ g) = omega arith

flag-single : (s : Receiver) → length (flag s).1 ≤ 1
flag-single s = go s.hunting refl
  where
    go : (h : Bool) → s.hunting ≡ h → length (flag s).1 ≤ 1
    go true e = rw e (omega arith)
    go false e = rw e (unit-single (take (length s.gathered - 7) s.gathered))

module _ (M : ℕ) (s : Receiver) where
  gather-pays : (r : ℕ) (b : Bool) → spent r ≤ spent s.run + 1 → Pays M s (gather M s r b)
  gather-pays r b p = go s.hunting refl (ltb (8 * M + 7) (length s.gathered + 1)) refl
    where
      go : (h : Bool) → s.hunting ≡ h → (t : Bool) → ltb (8 * M + 7) (length s.gathered + 1) ≡ t → Pays M s (gather M s r b)
      go true e t q = rw e (record { single = omega arith; pays = λ _. omega arith; grows = omega arith; empties = λ x. refl })
      go false e true q = rw (e, q) (record { single = omega arith; pays = λ x. absurd (omega (arith, ltb-true (8 * M + 7) (length s.gathered + 1) q)); grows = omega arith; empties = λ _. refl })
      go false e false q = rw (e, q) (record { single = omega arith; pays = λ _. omega arith; grows = omega (arith, snoc-length s.gathered b); empties = λ x. absurd (omega arith) })

  up-spent : (s.run ≡ 6 → ⊥) → spent (min (s.run + 1) 7) ≤ spent s.run + 1
  up-spent n = go (ltb s.run 6) refl
    where
      go : (t : Bool) → ltb s.run 6 ≡ t → spent (min (s.run + 1) 7) ≤ spent s.run + 1
      go true e =
          let h : s.run < 6 = ltb-true s.run 6 e in
          omega (arith, spent-low (min (s.run + 1) 7) (omega arith), spent-low s.run (omega arith))
      go false e =
          let h : 6 ≤ s.run = ltb-false s.run 6 e in
          let k : 7 ≤ min (s.run + 1) 7 = omega arith in
          omega (arith, spent-high (min (s.run + 1) 7) k)

  step-pays : (b : Bool) → Pays M s (step_bit M s b)
  unfolding step_bit
  step-pays true = go (eqb s.run 6) refl
    where
      go : (t : Bool) → eqb s.run 6 ≡ t → Pays M s (cond (eqb s.run 6) (hunts 7, abort ∷ []) (gather M s (min (s.run + 1) 7) true))
      go true e = rw e (record { single = omega arith; pays = λ _. omega (arith, spent-low s.run (omega (arith, eqb-true s.run 6 e)), eqb-true s.run 6 e); grows = omega arith; empties = λ _. refl })
      go false e = rw e (gather-pays (min (s.run + 1) 7) true (up-spent (eqb-false s.run 6 e)))
  step-pays false = go (eqb s.run 5) refl (eqb s.run 6) refl
    where
      go : (t : Bool) → eqb s.run 5 ≡ t → (u : Bool) → eqb s.run 6 ≡ u
          → Pays M s
          (cond (eqb s.run 5) (record { run = 0; hunting = s.hunting; gathered = s.gathered }, []) (cond (eqb s.run 6) (flag s) (gather M s 0 false)))
      go true e u q = rw e (record { single = omega arith; pays = λ _. omega arith; grows = omega arith; empties = λ x. absurd (omega arith) })
      go false e true q = rw (e, q) (record { single = flag-single s; pays = λ _. omega (arith, spent-low s.run (omega (arith, eqb-true s.run 6 q)), eqb-true s.run 6 q, flag-single s); grows = omega arith; empties = λ _. refl })
      go false e false q = rw (e, q) (gather-pays 0 false (omega arith))

-- a bit finds one thing at most
pub finds-single : (M : ℕ) (s : Receiver) (b : Bool) → length (finds M s b) ≤ 1
finds-single M s b = (step-pays M s b).single

-- where the unit cannot become long, each finding costs seven bits
paid : (M : ℕ) (bs : List Bool) (s : Receiver) → length s.gathered + length bs ≤ 8 * M + 7 → 7 * length (findings M s bs) ≤ spent s.run + length bs
paid M [] s h = omega arith
paid M (b ∷ bs) s h =
    let k = step-pays M s b in
    omega (
      arith,
      length-append (finds M s b) (findings M (next M s b) bs),
      k.pays (omega arith),
      k.grows,
      paid M bs (next M s b) (omega (arith, k.grows)),
    )

two : (M : ℕ) (bs : List Bool) (s : Receiver) → 7 ≤ M → length bs ≤ 8 → length (findings M s bs) ≤ 2
two M [] s m h = omega arith
two M (b ∷ bs) s m h = pick (length (finds M s b)) refl (two M bs (next M s b) m (omega arith))
  where
    k : Pays M s (step_bit M s b)
    k = step-pays M s b

    e : length (finds M s b ++ findings M (next M s b) bs) ≡ length (finds M s b) + length (findings M (next M s b) bs)
    e = length-append (finds M s b) (findings M (next M s b) bs)

    pick : (n : ℕ) → length (finds M s b) ≡ n → length (findings M (next M s b) bs) ≤ 2 → length (finds M s b ++ findings M (next M s b) bs) ≤ 2
    pick zero q ih = omega (arith, e)
    pick (suc n) q ih =
        let z : length (next M s b).gathered ≡ 0 = k.empties (omega arith) in
        omega (arith, e, k.single, spent-le (next M s b).run, paid M bs (next M s b) (omega arith))

pub two-findings : TwoFindings
two-findings M s octet m = two M (bits_of 8 octet) s m (omega (arith, length-bits_of 8 octet))
