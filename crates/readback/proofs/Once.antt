-- Eight bits close at most one unit: after the first that they close, fewer than eight are left from a flag on.
use Prim.Native.Nat.{ℕ, ◌+◌, ◌-◌, ◌*◌, ◌≤◌, min}
use mathlib.Core.Path.{◌≡◌, refl, ap}
use mathlib.Core.Bool.{Bool, true, false, cond}
use mathlib.Core.List.{List, [], ◌∷◌, ◌++◌}
use native.Mathlib.Omega.{arith}
use lib.ListN.{length, take}
use lib.Dec.{eqb, ltb}
use Rattle.framing.specs.Delimitation.{Receiver, Finding, closed, abort, long, hunts, inside, flagged, unit, gather, flag, step_bit, findings}
use Rattle.readback.proofs.Gathered.{Unclosed, none, aborted, overlong, flag-unclosed}
use Rattle.readback.proofs.Pieces.{found as closings}
use Rattle.readback.proofs.Rounds.{closings-length}

-- ---- one bit: what it finds, and that a unit is closed by a flag
data Finds : Receiver × List Finding → Type 0 where
  nothing : {s : Receiver} → Finds (s, [])
  closes : {u : List Bool} → Finds (flagged, closed u ∷ [])
  aborts : {s : Receiver} → Finds (s, abort ∷ [])
  too_long : {s : Receiver} → Finds (s, long ∷ [])

unit-finds : (u : List Bool) → Finds (flagged, unit u)
unit-finds [] = nothing
unit-finds (b ∷ u) = closes

module _ (M : ℕ) (s : Receiver) where
  gather-finds : (r : ℕ) (b : Bool) → Finds (gather M s r b)
  gather-finds r b = go s.hunting (ltb (8 * M + 7) (length s.gathered + 1))
    where
      go : (x t : Bool) → Finds (cond x (hunts r, []) (cond t (hunts r, long ∷ []) (inside r (s.gathered ++ (b ∷ [])), [])))
      go true t = nothing
      go false true = too_long
      go false false = nothing

  flag-finds : Finds (flag s)
  flag-finds = go s.hunting
    where
      go : (x : Bool) → Finds (flagged, cond x [] (unit (take (length s.gathered - 7) s.gathered)))
      go true = nothing
      go false = unit-finds (take (length s.gathered - 7) s.gathered)

  bit-finds : (b : Bool) → Finds (step_bit M s b)
  unfolding step_bit
  bit-finds true = go (eqb s.run 6)
    where
      go : (t : Bool) → Finds (cond t (hunts 7, abort ∷ []) (gather M s (min (s.run + 1) 7) true))
      go true = aborts
      go false = gather-finds (min (s.run + 1) 7) true
  bit-finds false = go (eqb s.run 5) (eqb s.run 6)
    where
      go : (t u : Bool)
          → Finds (cond t (record { run = 0; hunting = s.hunting; gathered = s.gathered }, []) (cond u (flag s) (gather M s 0 false)))
      go true u = nothing
      go false true = flag-finds
      go false false = gather-finds 0 false

-- ---- what closes no unit is no unit's closing
none-closed : (fs : List Finding) (us : List (List ℕ)) → Unclosed fs → fs ≡ closings us → length us ≡ 0
none-closed fs [] x e = refl
none-closed [] (u ∷ us) none e = cc
none-closed (abort ∷ fs) (u ∷ us) (aborted x) e = cc
none-closed (long ∷ fs) (u ∷ us) (overlong x) e = cc
none-closed (closed _ ∷ fs) (u ∷ us) x e = elim x [ ]

-- ---- bits
one_bit : (M : ℕ) (bs : List Bool) (us : List (List ℕ)) (st : Receiver × List Finding) → length bs ≤ 7 → Finds st
    → st.1 ++ findings M st.0 bs ≡ closings us
    → ((s : Receiver) → findings M s bs ≡ closings us → length us ≤ 1) → length us ≤ 1
one_bit M bs us (s, []) h nothing e go_on = go_on s e
one_bit M bs [] (s, f ∷ fs) h x e go_on = omega arith
one_bit M bs (v ∷ us) (s, closed u ∷ []) h closes e go_on =
    let rest : findings M flagged bs ≡ closings us = cc in
    omega (arith, none-closed (findings M flagged bs) us (flag-unclosed M bs h) rest)
one_bit M bs (v ∷ us) (s, abort ∷ []) h aborts e go_on = cc
one_bit M bs (v ∷ us) (s, long ∷ []) h too_long e go_on = cc
one_bit M bs (v ∷ us) (s, closed u ∷ (_ ∷ _)) h x e go_on = elim x [ ]
one_bit M bs (v ∷ us) (s, abort ∷ (_ ∷ _)) h x e go_on = elim x [ ]
one_bit M bs (v ∷ us) (s, long ∷ (_ ∷ _)) h x e go_on = elim x [ ]

pub at_most_one : (M : ℕ) (bs : List Bool) (s : Receiver) (us : List (List ℕ)) → length bs ≤ 8 → findings M s bs ≡ closings us → length us ≤ 1
at_most_one M [] s us h e = omega (arith, ap length e, closings-length us)
at_most_one M (b ∷ bs) s us h e =
    one_bit M bs us (step_bit M s b) (omega arith) (bit-finds M s b) e (λ t q. at_most_one M bs t us (omega arith) q)
