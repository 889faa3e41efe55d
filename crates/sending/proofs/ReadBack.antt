-- What is sent is read back.
use Prim.Native.Nat.{ℕ, zero, suc, ◌+◌, ◌-◌, ◌*◌, ◌≤◌, ◌<◌}
use mathlib.Core.Path.{◌≡◌, refl, sym, ap, ap₂, subst, ◌∙◌}
use mathlib.Core.Bool.{Bool, true, false}
use mathlib.Core.List.{List, [], ◌∷◌, ◌++◌, append_assoc, append-nil}
use native.Mathlib.Nat.{add-zero}
use native.Mathlib.Omega.{arith}
use borrow.Author.Tests.{eqb-true}
use lib.Dec.{eqb}
use lib.ListN.{length, take, replicate, length-append}
use lib.Seq.{append_snoc, take-append_seam}
use Rattle.bits.proofs.Machines.{run-append, outs-append}
use Rattle.bits.proofs.Digits.{snoc-length}
use Rattle.framing.specs.Delimitation.{Receiver, Finding, closed, inside, flagged, unit, step_bit, next, finds, receiver_after, findings}
use Rattle.framing.proofs.Steps.{one-read, zero-read}
use Rattle.sending.specs.Stuffing.{ones_after, zero_after, stuffed, ones_over, on_line}
use Rattle.sending.specs.Promises.{ReadBack}
use Rattle.sending.proofs.Stuffs.{after-le, over-le}

-- a receiver reads bits and finds nothing on the way
pub record Quietly (M : ℕ) (s : Receiver) (bs : List Bool) (s' : Receiver) : Type 0 where
  pub state : receiver_after M s bs ≡ s'
  pub nothing : findings M s bs ≡ []

quietly-append : (M : ℕ) (s s' s'' : Receiver) (xs ys : List Bool) → Quietly M s xs s' → Quietly M s' ys s'' → Quietly M s (xs ++ ys) s''
quietly-append M s s' s'' xs ys p q =
    record {
      state = run-append (next M) xs ys s ∙ ap (λ (x : Receiver). receiver_after M x ys) p.state ∙ q.state;
      nothing =
          outs-append (next M) (finds M) xs ys s
          ∙ ap₂ (λ (a b : List Finding). a ++ b) p.nothing (ap (λ (x : Receiver). findings M x ys) p.state ∙ q.nothing);
    }

-- ---- one bit of a unit
-- a step that finds nothing
single : (M : ℕ) (s s' : Receiver) (b : Bool) → step_bit M s b ≡ (s', []) → Quietly M s (b ∷ []) s'
single M s s' b e = record { state = ap (λ (st : Receiver × List Finding). st.0) e; nothing = ap (λ (st : Receiver × List Finding). st.1 ++ []) e }

-- a zero after five ones is removed
removed : (M r : ℕ) (g : List Bool) → r ≡ 5 → Quietly M (inside r g) (false ∷ []) (inside 0 g)
unfolding step_bit
removed M r g e = single M (inside r g) (inside 0 g) false (rw e)

-- a stuffed bit is gathered, the zero after a fifth one is removed, and the run goes as the sender's ones
bit-back : (M ones : ℕ) (b : Bool) (g : List Bool) → ones ≤ 4 → length g < 8 * M + 7
    → Quietly M (inside ones g) (b ∷ zero_after ones b) (inside (ones_after ones b) (g ++ (b ∷ [])))
bit-back M ones false g h k = single M (inside ones g) (inside 0 (g ++ (false ∷ []))) false (zero-read M ones g h k)
bit-back M ones true g h k = go (eqb ones 4) refl
  where
    first : Quietly M (inside ones g) (true ∷ []) (inside (ones + 1) (g ++ (true ∷ [])))
    first = single M (inside ones g) (inside (ones + 1) (g ++ (true ∷ []))) true (one-read M ones g (omega arith) k)

    go : (x : Bool) → eqb ones 4 ≡ x → Quietly M (inside ones g) (true ∷ zero_after ones true) (inside (ones_after ones true) (g ++ (true ∷ [])))
    go true e =
        rw e (quietly-append M (inside ones g) (inside (ones + 1) (g ++ (true ∷ []))) (inside 0 (g ++ (true ∷ []))) (true ∷ []) (false ∷ []) first
        (removed M (ones + 1) (g ++ (true ∷ [])) (omega (arith, eqb-true ones 4 e))))
    go false e = rw e first

pub bits_back : (M ones : ℕ) (bs g : List Bool) → ones ≤ 4 → length g + length bs ≤ 8 * M + 7
    → Quietly M (inside ones g) (stuffed ones bs) (inside (ones_over ones bs) (g ++ bs))
bits_back M ones [] g h k = record { state = ap (inside ones) (sym (append-nil g)); nothing = refl }
bits_back M ones (b ∷ bs) g h k =
    subst (λ (x : List Bool). Quietly M (inside ones g) (stuffed ones (b ∷ bs)) (inside (ones_over ones (b ∷ bs)) x)) (append_snoc g b bs)
    (quietly-append M (inside ones g) (inside (ones_after ones b) (g ++ (b ∷ []))) (inside (ones_over ones (b ∷ bs)) ((g ++ (b ∷ [])) ++ bs)) (b ∷ zero_after ones b) (stuffed (ones_after ones b) bs)
    (bit-back M ones b g h (omega arith))
    (bits_back M (ones_after ones b) bs (g ++ (b ∷ [])) (after-le ones b h) (omega (arith, snoc-length g b))))

-- ---- the flag after a unit's bits
ones-read : (M n r : ℕ) (g : List Bool) → r + n ≤ 6 → length g + n ≤ 8 * M + 7
    → Quietly M (inside r g) (replicate n true) (inside (r + n) (g ++ replicate n true))
ones-read M zero r g h k = record { state = ap₂ inside (sym (add-zero r)) (sym (append-nil g)); nothing = refl }
ones-read M (suc n) r g h k =
    let e : r + 1 + n ≡ r + suc n = omega arith in
    subst (λ (x : List Bool). Quietly M (inside r g) (replicate (suc n) true) (inside (r + suc n) x)) (append_snoc g true (replicate n true))
    (subst (λ (m : ℕ). Quietly M (inside r g) (replicate (suc n) true) (inside m ((g ++ (true ∷ [])) ++ replicate n true))) e
    (quietly-append M (inside r g) (inside (r + 1) (g ++ (true ∷ []))) (inside (r + 1 + n) ((g ++ (true ∷ [])) ++ replicate n true)) (true ∷ []) (replicate n true)
    (single M (inside r g) (inside (r + 1) (g ++ (true ∷ []))) true (one-read M r g (omega arith) (omega arith)))
    (ones-read M n (r + 1) (g ++ (true ∷ [])) (omega arith) (omega (arith, snoc-length g true)))))

-- its first seven bits are gathered
abbrev seven : List Bool
seven = false ∷ replicate 6 true

seven-read : (M ones : ℕ) (g : List Bool) → ones ≤ 4 → length g + 7 ≤ 8 * M + 7 → Quietly M (inside ones g) seven (inside 6 (g ++ seven))
seven-read M ones g h k =
    subst (λ (x : List Bool). Quietly M (inside ones g) seven (inside 6 x)) (append_snoc g false (replicate 6 true))
    (quietly-append M (inside ones g) (inside 0 (g ++ (false ∷ []))) (inside 6 ((g ++ (false ∷ [])) ++ replicate 6 true)) (false ∷ []) (replicate 6 true)
    (single M (inside ones g) (inside 0 (g ++ (false ∷ []))) false (zero-read M ones g h (omega arith)))
    (ones-read M 6 0 (g ++ (false ∷ [])) (omega arith) (omega (arith, snoc-length g false))))

-- and its last bit closes what stood before them
flag-closes : (M : ℕ) (u : List Bool) → step_bit M (inside 6 (u ++ seven)) false ≡ (flagged, unit u)
unfolding step_bit
flag-closes M u =
    let l : length (u ++ seven) - 7 ≡ length u = omega (arith, length-append u seven) in
    ap {B = Receiver × List Finding} (λ (x : List Bool). (flagged, unit x)) (ap (λ (n : ℕ). take n (u ++ seven)) l ∙ take-append_seam u seven)

unit-closed : (u : List Bool) → 0 < length u → unit u ≡ closed u ∷ []
unit-closed [] h = absurd (omega arith)
unit-closed (b ∷ u) h = refl

-- ---- a unit on the line: its last bit closes it, and nothing is found before that bit
pub record ClosesLast (M : ℕ) (u : List Bool) : Type 0 where
  pub quiet : List Bool
  pub is : on_line u ≡ quiet ++ (false ∷ [])
  pub nothing : findings M flagged quiet ≡ []
  pub last : step_bit M (receiver_after M flagged quiet) false ≡ (flagged, closed u ∷ [])

pub closes-last : (M : ℕ) (u : List Bool) → 0 < length u → length u ≤ 8 * M → ClosesLast M u
closes-last M u h k =
    let q = quietly-append M flagged (inside (ones_over 0 u) u) (inside 6 (u ++ seven)) (stuffed 0 u) seven (bits_back M 0 u [] (omega arith) (omega arith))
    (seven-read M (ones_over 0 u) u (over-le 0 u (omega arith)) (omega arith)) in
    record {
      quiet = stuffed 0 u ++ seven;
      is = sym (append_assoc (stuffed 0 u) seven (false ∷ []));
      nothing = q.nothing;
      last =
          ap (λ (x : Receiver). step_bit M x false) q.state ∙ flag-closes M u
          ∙ ap {B = Receiver × List Finding} (λ (fs : List Finding). (flagged, fs)) (unit-closed u h);
    }

pub read_back : ReadBack
read_back M u h k =
    let c = closes-last M u h k in (
      ap (receiver_after M flagged) c.is ∙ run-append (next M) c.quiet (false ∷ []) flagged ∙ ap (λ (st : Receiver × List Finding). st.0) c.last,
      ap (findings M flagged) c.is ∙ outs-append (next M) (finds M) c.quiet (false ∷ []) flagged
          ∙ ap₂ (λ (a b : List Finding). a ++ b) c.nothing (ap (λ (st : Receiver × List Finding). st.1 ++ []) c.last),
    )
