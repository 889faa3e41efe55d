-- What is found between two flags.
use Prim.Native.Nat.{ℕ, zero, suc, ◌+◌, ◌-◌, ◌*◌, ◌≤◌, ◌<◌, min}
use mathlib.Core.Path.{◌≡◌, refl, sym, ap, subst, ◌∙◌}
use mathlib.Core.Bool.{Bool, true, false, cond}
use mathlib.Core.List.{List, [], ◌∷◌, ◌++◌, append-nil}
use native.Mathlib.Omega.{arith}
use borrow.Author.Tests.{ltb-true, ltb-false, lt-ltb, le-ltb, eqb-true, eqb-false, ne_eqb}
use lib.Dec.{eqb, ltb}
use lib.ListN.{length, take, replicate, length-append, length-take}
use lib.Seq.{append_snoc, take-append_seam, take-append-le}
use Rattle.bits.proofs.Machines.{run-append, outs-append}
use Rattle.bits.proofs.Digits.{snoc-length}
use Rattle.std.proofs.lemmas.Bool.{and_parts}
use Rattle.framing.specs.Delimitation.{Receiver, Finding, long, inside, hunts, flagged, unit, gather, step_bit, next, finds, receiver_after, findings}
use Rattle.framing.proofs.Steps.{bit-then, hunted-zero}
use Rattle.sending.specs.Stuffing.{flag}
use Rattle.delimitation.specs.BetweenFlags.{no_six, unstuffed, ones_at_end, found_of, FlagRead, BetweenFlags}

-- a receiver reads bits up to a flag, and finds these on the way
record Reads (M : ℕ) (s : Receiver) (bs : List Bool) (fs : List Finding) : Type 0 where
  state : receiver_after M s bs ≡ flagged
  found : findings M s bs ≡ fs

-- ---- one bit
reads-bit : (M : ℕ) (s s' : Receiver) (b : Bool) (bs : List Bool) (fs fs' : List Finding) → step_bit M s b ≡ (s', fs) → Reads M s' bs fs'
    → Reads M s (b ∷ bs) (fs ++ fs')
reads-bit M s s' b bs fs fs' e q =
    let p = bit-then M s s' flagged b bs fs fs' e q.state q.found in record { state = p.0; found = p.1 }

-- a bit that is gathered, or is one too many
reads-gathered : (M r r' : ℕ) (g : List Bool) (b : Bool) (bs : List Bool) (fs : List Finding) → step_bit M (inside r g) b ≡ gather M (inside r g) r' b
    → (length g < 8 * M + 7 → Reads M (inside r' (g ++ (b ∷ []))) bs fs)
    → (8 * M + 7 ≤ length g → (Reads M (hunts r') bs []) × (long ∷ [] ≡ fs))
    → Reads M (inside r g) (b ∷ bs) fs
reads-gathered M r r' g b bs fs e more full = go (ltb (8 * M + 7) (length g + 1)) refl
  where
    go : (x : Bool) → ltb (8 * M + 7) (length g + 1) ≡ x → Reads M (inside r g) (b ∷ bs) fs
    go true t =
        let f = full (omega (arith, ltb-true (8 * M + 7) (length g + 1) t)) in
        subst (λ (l : List Finding). Reads M (inside r g) (b ∷ bs) l) f.1
        (reads-bit M (inside r g) (hunts r') b bs (long ∷ []) [] (e ∙ rw t) f.0)
    go false t =
        reads-bit M (inside r g) (inside r' (g ++ (b ∷ []))) b bs [] fs (e ∙ rw t) (more (omega (arith, ltb-false (8 * M + 7) (length g + 1) t)))

one-step : (M : ℕ) (s : Receiver) → s.run ≤ 5 → step_bit M s true ≡ gather M s (s.run + 1) true
unfolding step_bit
one-step M s h =
    let m : min (s.run + 1) 7 ≡ s.run + 1 = omega arith in
    rw (ne_eqb s.run 6 (omega arith), m)

zero-step : (M : ℕ) (s : Receiver) → s.run ≤ 4 → step_bit M s false ≡ gather M s 0 false
unfolding step_bit
zero-step M s h = rw (ne_eqb s.run 5 (omega arith), ne_eqb s.run 6 (omega arith))

five-step : (M r : ℕ) (h : Bool) (g : List Bool) → r ≡ 5
    → step_bit M (record { run = r; hunting = h; gathered = g }) false ≡ (record { run = 0; hunting = h; gathered = g }, [])
unfolding step_bit
five-step M r h g e = rw e

-- the zero that ends a flag
last-zero : (M : ℕ) (s : Receiver) → s.run ≡ 6
    → Reads M s (false ∷ []) (cond s.hunting [] (unit (take (length s.gathered - 7) s.gathered)))
unfolding step_bit
last-zero M s e = rw e record { state = refl; found = append-nil _ }

-- ---- hunting: nothing is found
hunted-one : (M r : ℕ) (bs : List Bool) → r ≤ 5 → Reads M (hunts (r + 1)) bs [] → Reads M (hunts r) (true ∷ bs) []
hunted-one M r bs h q = reads-bit M (hunts r) (hunts (r + 1)) true bs [] [] (one-step M (hunts r) h) q

hunted-zeros : (M r : ℕ) (bs : List Bool) → r ≤ 5 → Reads M (hunts 0) bs [] → Reads M (hunts r) (false ∷ bs) []
hunted-zeros M r bs h q = reads-bit M (hunts r) (hunts 0) false bs [] [] (hunted-zero M r (ne_eqb r 6 (omega arith))) q

hunted-ones : (M n r : ℕ) → r + n ≡ 6 → Reads M (hunts r) (replicate n true ++ (false ∷ [])) []
hunted-ones M zero r e = last-zero M (hunts r) (omega arith)
hunted-ones M (suc n) r e = hunted-one M r (replicate n true ++ (false ∷ [])) (omega arith) (hunted-ones M n (r + 1) (omega arith))

hunted : (M r : ℕ) (bs : List Bool) → r ≤ 5 → no_six r bs ≡ true → Reads M (hunts r) (bs ++ flag) []
unfolding no_six
hunted M r [] h k = hunted-zeros M r (replicate 6 true ++ (false ∷ [])) h (hunted-ones M 6 0 refl)
hunted M r (true ∷ bs) h k =
    let t = and_parts (ltb r 5) (no_six (r + 1) bs) k in
    let l : r < 5 = ltb-true r 5 t.0 in
    hunted-one M r (bs ++ flag) h (hunted M (r + 1) bs (omega arith) t.1)
hunted M r (false ∷ bs) h k = hunted-zeros M r (bs ++ flag) h (hunted M 0 bs (omega arith) k)

-- ---- inside a unit
found-long : (M : ℕ) (u : List Bool) → 8 * M < length u → long ∷ [] ≡ found_of M u
found-long M u h = rw (lt-ltb (8 * M) (length u) h)

found-unit : (M : ℕ) (u : List Bool) → length u ≤ 8 * M → unit u ≡ found_of M u
found-unit M u h = rw (le-ltb (8 * M) (length u) h)

-- a flag's ones and its last zero, w being all that is gathered by then: the last seven bits of it belong to the flag
inside-ones : (M n r : ℕ) (g w : List Bool) → r + n ≡ 6 → length g ≤ 8 * M + 7 → g ++ replicate n true ≡ w
    → Reads M (inside r g) (replicate n true ++ (false ∷ [])) (found_of M (take (length w - 7) w))
inside-ones M zero r g w e k a =
    let b : g ≡ w = sym (append-nil g) ∙ a in
    let l : length w ≡ length g = ap length (sym b) in
    rw (← found-unit M (take (length w - 7) w) (omega (arith, length-take (length w - 7) w)), b) (last-zero M (inside r w) (omega arith))
inside-ones M (suc n) r g w e k a =
    let l : length w ≡ length g + suc (length (replicate n true)) = ap length (sym a) ∙ length-append g (replicate (suc n) true) in
    reads-gathered M r (r + 1) g true (replicate n true ++ (false ∷ [])) (found_of M (take (length w - 7) w)) (one-step M (inside r g) (omega arith))
    (λ m. inside-ones M n (r + 1) (g ++ (true ∷ [])) w (omega arith) (omega (arith, snoc-length g true)) (append_snoc g true (replicate n true) ∙ a))
    (λ m. (hunted-ones M n (r + 1) (omega arith), found-long M (take (length w - 7) w) (omega (arith, length-take (length w - 7) w))))

-- the unit that a flag closes, w being all that was gathered before the flag
abbrev closes : ℕ → List Bool → List Bool
closes ones w = cond (eqb ones 5) (take (length w - 1) w) w

closes-long : (M ones : ℕ) (w : List Bool) → 8 * M + 7 < length w → long ∷ [] ≡ found_of M (closes ones w)
closes-long M ones w h = go (eqb ones 5) refl
  where
    go : (x : Bool) → eqb ones 5 ≡ x → long ∷ [] ≡ found_of M (closes ones w)
    go true e = rw e (found-long M (take (length w - 1) w) (omega (arith, length-take (length w - 1) w)))
    go false e = rw e (found-long M w (omega arith))

-- its zero is removed after five ones, and gathered else
inside-flag : (M r : ℕ) (g : List Bool) → r ≤ 5 → length g ≤ 8 * M + 7 → Reads M (inside r g) flag (found_of M (closes r g))
inside-flag M r g h k = go (eqb r 5) refl
  where
    go : (x : Bool) → eqb r 5 ≡ x → Reads M (inside r g) flag (found_of M (closes r g))
    go true e =
        let l : length (g ++ replicate 6 true) - 7 ≡ length g - 1 = omega (arith, length-append g (replicate 6 true)) in
        let u : take (length (g ++ replicate 6 true) - 7) (g ++ replicate 6 true) ≡ take (length g - 1) g
        = ap (λ (n : ℕ). take n (g ++ replicate 6 true)) l ∙ take-append-le (length g - 1) g (replicate 6 true) (omega arith) in
        rw e
        (reads-bit M (inside r g) (inside 0 g) false (replicate 6 true ++ (false ∷ [])) [] (found_of M (take (length g - 1) g))
        (five-step M r false g (eqb-true r 5 e))
        (subst (λ (x : List Bool). Reads M (inside 0 g) (replicate 6 true ++ (false ∷ [])) (found_of M x)) u
        (inside-ones M 6 0 g (g ++ replicate 6 true) refl k refl)))
    go false e =
        let w : List Bool = g ++ (false ∷ replicate 6 true) in
        let l : length w - 7 ≡ length g = omega (arith, length-append g (false ∷ replicate 6 true)) in
        let u : take (length w - 7) w ≡ g = ap (λ (n : ℕ). take n w) l ∙ take-append_seam g (false ∷ replicate 6 true) in
        rw e
        (reads-gathered M r 0 g false (replicate 6 true ++ (false ∷ [])) (found_of M g) (zero-step M (inside r g) (omega (arith, eqb-false r 5 e)))
        (λ m.
        subst (λ (x : List Bool). Reads M (inside 0 (g ++ (false ∷ []))) (replicate 6 true ++ (false ∷ [])) (found_of M x)) u
        (inside-ones M 6 0 (g ++ (false ∷ [])) w refl (omega (arith, snoc-length g false)) (append_snoc g false (replicate 6 true))))
        (λ m. (hunted-ones M 6 0 refl, found-long M g (omega arith))))

-- bits and then a flag, w being the gathered bits and what is still to be gathered before the flag
inside-bits : (M r : ℕ) (g bs w : List Bool) → r ≤ 5 → no_six r bs ≡ true → length g ≤ 8 * M + 7 → g ++ unstuffed r bs ≡ w
    → Reads M (inside r g) (bs ++ flag) (found_of M (closes (ones_at_end r bs) w))
unfolding no_six unstuffed ones_at_end
inside-bits M r g [] w h k m a = rw (← a, append-nil) (inside-flag M r g h m)
inside-bits M r g (true ∷ bs) w h k m a =
    let t = and_parts (ltb r 5) (no_six (r + 1) bs) k in
    let o : r < 5 = ltb-true r 5 t.0 in
    let l : length w ≡ length g + suc (length (unstuffed (r + 1) bs)) = ap length (sym a) ∙ length-append g (true ∷ unstuffed (r + 1) bs) in
    reads-gathered M r (r + 1) g true (bs ++ flag) (found_of M (closes (ones_at_end (r + 1) bs) w)) (one-step M (inside r g) (omega arith))
    (λ n. inside-bits M (r + 1) (g ++ (true ∷ [])) bs w (omega arith) t.1 (omega (arith, snoc-length g true)) (append_snoc g true (unstuffed (r + 1) bs) ∙ a))
    (λ n. (hunted M (r + 1) bs (omega arith) t.1, closes-long M (ones_at_end (r + 1) bs) w (omega arith)))
inside-bits M r g (false ∷ bs) w h k m a =
    go (eqb r 5) refl (λ c. inside-bits M 0 g bs w (omega arith) k m c)
    (λ n c. inside-bits M 0 (g ++ (false ∷ [])) bs w (omega arith) k (omega (arith, snoc-length g false)) (append_snoc g false (unstuffed 0 bs) ∙ c))
  where
    found : List Finding
    found = found_of M (closes (ones_at_end 0 bs) w)

    go : (x : Bool) → eqb r 5 ≡ x → (g ++ unstuffed 0 bs ≡ w → Reads M (inside 0 g) (bs ++ flag) found)
        → (length g < 8 * M + 7 → g ++ (false ∷ unstuffed 0 bs) ≡ w → Reads M (inside 0 (g ++ (false ∷ []))) (bs ++ flag) found)
        → Reads M (inside r g) (false ∷ (bs ++ flag)) found
    go true e removed gathered =
        reads-bit M (inside r g) (inside 0 g) false (bs ++ flag) [] found (five-step M r false g (eqb-true r 5 e)) (removed (rw e at a))
    go false e removed gathered =
        let c : g ++ (false ∷ unstuffed 0 bs) ≡ w = rw e at a in
        let l : length w ≡ length g + suc (length (unstuffed 0 bs)) = ap length (sym c) ∙ length-append g (false ∷ unstuffed 0 bs) in
        reads-gathered M r 0 g false (bs ++ flag) found (zero-step M (inside r g) (omega (arith, eqb-false r 5 e))) (λ n. gathered n c)
        (λ n. (hunted M 0 bs (omega arith) k, closes-long M (ones_at_end 0 bs) w (omega arith)))

-- ---- a flag, from any receiver: only the run matters
either-run : (x : Bool) (p q : Receiver × List Finding) (r : ℕ) → p.0.run ≡ r → q.0.run ≡ r → (cond x p q).0.run ≡ r
either-run true p q r e f = e
either-run false p q r e f = f

gather-run : (M : ℕ) (s : Receiver) (r : ℕ) (b : Bool) → (gather M s r b).0.run ≡ r
gather-run M s r b =
    either-run s.hunting (hunts r, []) _ r refl
    (either-run (ltb (8 * M + 7) (length s.gathered + 1)) (hunts r, long ∷ []) (inside r (s.gathered ++ (b ∷ [])), []) r refl refl)

zero-run : (M : ℕ) (s : Receiver) → (next M s false).run ≡ 0
unfolding step_bit
zero-run M s =
    either-run (eqb s.run 5) (record { run = 0; hunting = s.hunting; gathered = s.gathered }, []) _ 0 refl
    (either-run (eqb s.run 6) (flagged, _) (gather M s 0 false) 0 refl (gather-run M s 0 false))

ones-flag : (M n : ℕ) (s : Receiver) → s.run + n ≡ 6 → receiver_after M s (replicate n true ++ (false ∷ [])) ≡ flagged
ones-flag M zero s e = (last-zero M s (omega arith)).state
ones-flag M (suc n) s e =
    let r : (next M s true).run ≡ s.run + 1 = ap (λ (st : Receiver × List Finding). st.0.run) (one-step M s (omega arith)) ∙ gather-run M s (s.run + 1) true in
    ones-flag M n (next M s true) (omega arith)

pub flag-read : FlagRead
flag-read M s = ones-flag M 6 (next M s false) (omega (arith, zero-run M s))

pub between-flags : BetweenFlags
between-flags M s bs h =
    let q = inside-bits M 0 [] bs (unstuffed 0 bs) (omega arith) h (omega arith) refl in (
      outs-append (next M) (finds M) flag (bs ++ flag) s
          ∙ ap (λ (l : List Finding). findings M s flag ++ l) (ap (λ (x : Receiver). findings M x (bs ++ flag)) (flag-read M s) ∙ q.found),
      run-append (next M) flag (bs ++ flag) s ∙ ap (λ (x : Receiver). receiver_after M x (bs ++ flag)) (flag-read M s) ∙ q.state,
    )
