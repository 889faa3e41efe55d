-- What a receiver has gathered: at most 8M + 7 bits, so that every unit that it closes fits a slot; and at most the bits read since a
-- flag, so that it closes none in the seven bits after one. Its run stays at most 7, and while it hunts it has gathered none.
use Prim.Native.Nat.{ℕ, ◌+◌, ◌-◌, ◌*◌, ◌≤◌, min}
use mathlib.Core.Path.{◌≡◌, refl}
use mathlib.Core.Bool.{Bool, true, false, cond}
use mathlib.Core.List.{List, [], ◌∷◌, ◌++◌, map, map-append}
use native.Mathlib.Omega.{arith}
use lib.ListN.{length, take, length-take}
use lib.Dec.{eqb, ltb}
use borrow.Author.Tests.{ltb-false}
use Rattle.bits.specs.Octets.{bits_of}
use Rattle.bits.proofs.Digits.{snoc-length}
use Rattle.framing.specs.Delimitation.{Receiver, Finding, closed, abort, long, hunts, inside, flagged, unit, gather, flag, step_bit, next, finds, receiver_after, findings}
use Rattle.units.specs.Indications.{Indication, found, octet_end, octet_receiver, octet_indications, line_receiver, line_indications}
use Rattle.reception.proofs.Octets.{AllAtMostLongest, none_left, one_more}

-- no unit is closed
pub data Unclosed : List Finding → Type 0 where
  none : Unclosed []
  aborted : {fs : List Finding} → Unclosed fs → Unclosed (abort ∷ fs)
  overlong : {fs : List Finding} → Unclosed fs → Unclosed (long ∷ fs)

-- run at most 7, and no bits while hunting
pub record Sound (s : Receiver) : Type 0 where
  pub run : s.run ≤ 7
  pub idle : s.hunting ≡ true → s.gathered ≡ []

hunts-sound : (r : ℕ) → r ≤ 7 → Sound (hunts r)
hunts-sound r h = record { run = h; idle = λ _. refl }

inside-sound : (r : ℕ) (g : List Bool) → r ≤ 7 → Sound (inside r g)
inside-sound r g h = record { run = h; idle = λ e. cc }

-- ---- one bit
record Step (M : ℕ) (s : Receiver) (st : Receiver × List Finding) : Type 0 where
  held : length s.gathered ≤ 8 * M + 7 → length st.0.gathered ≤ 8 * M + 7
  allowed : M ≤ 278 → length s.gathered ≤ 8 * M + 7 → AllAtMostLongest (map found st.1)
  grows : length st.0.gathered ≤ length s.gathered + 1
  stays : length s.gathered ≤ 7 → Unclosed st.1
  sound : Sound s → Sound st.0

unit-allowed : (u : List Bool) → length u ≤ 2224 → AllAtMostLongest (map found (unit u))
unit-allowed [] h = none_left
unit-allowed (b ∷ u) h = one_more {m = found (closed (b ∷ u))} h none_left

unit-none : (u : List Bool) → length u ≤ 0 → Unclosed (unit u)
unit-none [] h = none
unit-none (b ∷ u) h = absurd (omega arith)

module _ (M : ℕ) (s : Receiver) where
  gather-step : (r : ℕ) (b : Bool) → r ≤ 7 → Step M s (gather M s r b)
  gather-step r b r≤7 = go s.hunting refl (ltb (8 * M + 7) (length s.gathered + 1)) refl
    where
      go : (x : Bool) → s.hunting ≡ x → (t : Bool) → ltb (8 * M + 7) (length s.gathered + 1) ≡ t → Step M s (gather M s r b)
      go true e t q =
          rw e
          (record { held = λ _. omega arith; allowed = λ _ _. none_left; grows = omega arith; stays = λ _. none; sound = λ _. hunts-sound r r≤7 })
      go false e true q =
          rw (e, q)
          (record {
            held = λ _. omega arith;
            allowed = λ _ _. one_more {m = found long} (omega arith) none_left;
            grows = omega arith;
            stays = λ _. overlong none;
            sound = λ _. hunts-sound r r≤7;
          })
      go false e false q =
          rw (e, q)
          (record {
            held = λ _. omega (arith, snoc-length s.gathered b, ltb-false (8 * M + 7) (length s.gathered + 1) q);
            allowed = λ _ _. none_left;
            grows = omega (arith, snoc-length s.gathered b);
            stays = λ _. none;
            sound = λ _. inside-sound r (s.gathered ++ (b ∷ [])) r≤7;
          })

  -- the last seven gathered bits belong to the flag
  flag-step : Step M s (flag s)
  flag-step = go s.hunting refl
    where
      short : length (take (length s.gathered - 7) s.gathered) ≤ length s.gathered - 7
      short = omega (arith, length-take (length s.gathered - 7) s.gathered)

      go : (x : Bool) → s.hunting ≡ x → Step M s (flag s)
      go true e =
          rw e
          (record {
            held = λ _. omega arith;
            allowed = λ _ _. none_left;
            grows = omega arith;
            stays = λ _. none;
            sound = λ _. inside-sound 0 [] (omega arith);
          })
      go false e =
          rw e
          (record {
            held = λ _. omega arith;
            allowed = λ m h. unit-allowed (take (length s.gathered - 7) s.gathered) (omega (arith, short));
            grows = omega arith;
            stays = λ h. unit-none (take (length s.gathered - 7) s.gathered) (omega (arith, short));
            sound = λ _. inside-sound 0 [] (omega arith);
          })

  step : (b : Bool) → Step M s (step_bit M s b)
  unfolding step_bit
  step true = go (eqb s.run 6) refl
    where
      go : (t : Bool) → eqb s.run 6 ≡ t → Step M s (cond (eqb s.run 6) (hunts 7, abort ∷ []) (gather M s (min (s.run + 1) 7) true))
      go true e =
          rw e
          (record {
            held = λ _. omega arith;
            allowed = λ _ _. one_more {m = found abort} (omega arith) none_left;
            grows = omega arith;
            stays = λ _. aborted none;
            sound = λ _. hunts-sound 7 (omega arith);
          })
      go false e = rw e (gather-step (min (s.run + 1) 7) true (omega arith))
  step false = go (eqb s.run 5) refl (eqb s.run 6) refl
    where
      go : (t : Bool) → eqb s.run 5 ≡ t → (u : Bool) → eqb s.run 6 ≡ u
          → Step M s
          (cond (eqb s.run 5) (record { run = 0; hunting = s.hunting; gathered = s.gathered }, []) (cond (eqb s.run 6) (flag s) (gather M s 0 false)))
      go true e u q =
          rw e
          (record {
            held = λ h. h;
            allowed = λ _ _. none_left;
            grows = omega arith;
            stays = λ _. none;
            sound = λ h. record { run = omega arith; idle = h.idle };
          })
      go false e true q = rw (e, q) flag-step
      go false e false q = rw (e, q) (gather-step 0 false (omega arith))

-- ---- bits: no more than 8M + 7 are gathered, and what is closed fits
after-held : (M : ℕ) (bs : List Bool) (s : Receiver) → length s.gathered ≤ 8 * M + 7 → length (receiver_after M s bs).gathered ≤ 8 * M + 7
after-held M [] s h = h
after-held M (b ∷ bs) s h = after-held M bs (next M s b) ((step M s b).held h)

after-sound : (M : ℕ) (bs : List Bool) (s : Receiver) → Sound s → Sound (receiver_after M s bs)
after-sound M [] s h = h
after-sound M (b ∷ bs) s h = after-sound M bs (next M s b) ((step M s b).sound h)

indications-both : (xs ys : List Indication) → AllAtMostLongest xs → AllAtMostLongest ys → AllAtMostLongest (xs ++ ys)
indications-both [] ys none_left b = b
indications-both (x ∷ xs) ys (one_more h a) b = one_more h (indications-both xs ys a b)

findings-allowed : (M : ℕ) (bs : List Bool) (s : Receiver) → M ≤ 278 → length s.gathered ≤ 8 * M + 7 → AllAtMostLongest (map found (findings M s bs))
findings-allowed M [] s m h = none_left
findings-allowed M (b ∷ bs) s m h =
    rw map-append
    (indications-both (map found (finds M s b)) (map found (findings M (next M s b) bs)) ((step M s b).allowed m h) (findings-allowed M bs (next M s b) m ((step M s b).held h)))

-- ---- the same of line octets
pub line-held : (M : ℕ) (octets : List ℕ) (s : Receiver) → length s.gathered ≤ 8 * M + 7 → length (line_receiver M s octets).gathered ≤ 8 * M + 7
unfolding line_receiver
line-held M [] s h = h
line-held M (x ∷ octets) s h = line-held M octets (octet_receiver M s x) (after-held M (bits_of 8 x) s h)

pub line-sound : (M : ℕ) (octets : List ℕ) (s : Receiver) → Sound s → Sound (line_receiver M s octets)
unfolding line_receiver
line-sound M [] s h = h
line-sound M (x ∷ octets) s h = line-sound M octets (octet_receiver M s x) (after-sound M (bits_of 8 x) s h)

pub line-allowed : (M : ℕ) (octets : List ℕ) (s : Receiver) → M ≤ 278 → length s.gathered ≤ 8 * M + 7 → AllAtMostLongest (line_indications M s octets)
unfolding line_indications
line-allowed M [] s m h = none_left
line-allowed M (x ∷ octets) s m h =
    indications-both (octet_indications M s x) (line_indications M (octet_receiver M s x) octets)
    (indications-both (map found (findings M s (bits_of 8 x))) (octet_end ∷ []) (findings-allowed M (bits_of 8 x) s m h) (one_more {m = octet_end} (omega arith) none_left))
    (line-allowed M octets (octet_receiver M s x) m (after-held M (bits_of 8 x) s h))

-- ---- few bits from a flag on close nothing
unclosed-both : (xs ys : List Finding) → Unclosed xs → Unclosed ys → Unclosed (xs ++ ys)
unclosed-both [] ys none b = b
unclosed-both (abort ∷ xs) ys (aborted a) b = aborted (unclosed-both xs ys a b)
unclosed-both (long ∷ xs) ys (overlong a) b = overlong (unclosed-both xs ys a b)
unclosed-both (closed _ ∷ xs) ys x5 b = elim x5 [ ]

few-unclosed : (M : ℕ) (bs : List Bool) (s : Receiver) → length s.gathered + length bs ≤ 7 → Unclosed (findings M s bs)
few-unclosed M [] s h = none
few-unclosed M (b ∷ bs) s h =
    unclosed-both (finds M s b) (findings M (next M s b) bs) ((step M s b).stays (omega arith))
    (few-unclosed M bs (next M s b) (omega (arith, (step M s b).grows)))

pub flag-unclosed : (M : ℕ) (bs : List Bool) → length bs ≤ 7 → Unclosed (findings M flagged bs)
flag-unclosed M bs h = few-unclosed M bs flagged (omega arith)
