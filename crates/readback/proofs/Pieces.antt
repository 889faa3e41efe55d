-- What a fresh receiver finds in a transmitter's line of which some bits are still waiting: the units whose closing flag is out.
use Prim.Native.Nat.{ℕ, zero, suc, ◌+◌, ◌≤◌}
use mathlib.Core.Path.{◌≡◌, refl, sym, ap, ap₂, ◌∙◌}
use mathlib.Core.Bool.{Bool, true, false}
use mathlib.Core.List.{List, [], ◌∷◌, ◌++◌, map, append-nil, append-eq-nil_iff}
use native.Mathlib.Omega.{arith}
use lib.ListN.{length, replicate, length-append, length-replicate}
use Rattle.bits.proofs.Machines.{run-append, outs-append}
use Rattle.framing.specs.Delimitation.{Receiver, Finding, closed, new_receiver, flagged, inside, step_bit, next, finds, receiver_after, findings}
use Rattle.framing.proofs.Steps.{bit-then, one-read, zero-read}
use Rattle.sending.specs.Stuffing.{stuffed, flag, unit_bits, unit_line}
use Rattle.sending.specs.Stream.{flags, units_line, stream_line}
use Rattle.sending.proofs.ReadBack.{closes-last}
use Rattle.sending.proofs.Stuffs.{unit-bits}
use Rattle.sending.proofs.Sent.{read-back-unit}
use Rattle.readback.proofs.Lists.{Seam, seam}
use Rattle.readback.specs.Streams.{Allowed, AllAllowed, none, more, all_but_last, closed_out}

-- ---- a list cut in two places: the second part is not longer than the other's
cut : {A : Type 0} (front xs w back : List A) → xs ++ w ≡ front ++ back → length w ≤ length back → Seam xs w front back
cut front xs w back e h = seam xs w front back e (omega (arith, ap length e, length-append xs w, length-append front back))

-- ---- one receiver reads two parts
module _ (M : ℕ) (s t : Receiver) (xs ys : List Bool) (e : receiver_after M s xs ≡ t) where
  after_both : receiver_after M s (xs ++ ys) ≡ receiver_after M t ys
  after_both = run-append (next M) xs ys s ∙ ap (λ (r : Receiver). receiver_after M r ys) e

  findings-both : findings M s (xs ++ ys) ≡ findings M s xs ++ findings M t ys
  findings-both = outs-append (next M) (finds M) xs ys s ∙ ap (λ (r : Receiver). findings M s xs ++ findings M r ys) e

-- nothing is found in the front of what nothing is found in
front-nothing : (M : ℕ) (s : Receiver) (xs ys : List Bool) → findings M s (xs ++ ys) ≡ [] → findings M s xs ≡ []
front-nothing M s xs ys e =
    (append-eq-nil_iff.0 (sym (outs-append (next M) (finds M) xs ys s) ∙ e)).0

-- ---- flags
pub record Idles (M : ℕ) (s : Receiver) (bs : List Bool) : Type 0 where
  pub state : receiver_after M s bs ≡ flagged
  pub nothing : findings M s bs ≡ []

new-flag : (M : ℕ) → Idles M new_receiver flag
unfolding step_bit
new-flag M = record { state = refl; nothing = refl }

-- a bit that is read and finds nothing
reads : (M : ℕ) (s s' : Receiver) (b : Bool) (bs : List Bool) → step_bit M s b ≡ (s', []) → Idles M s' bs → Idles M s (b ∷ bs)
reads M s s' b bs e p =
    let q = bit-then M s s' flagged b bs [] [] e p.state p.nothing in record { state = q.0; nothing = q.1 }

abbrev ones : ℕ → List Bool
ones n = false ∷ replicate n true

last_bit : (M : ℕ) → Idles M (inside 6 (ones 6)) (false ∷ [])
unfolding step_bit
last_bit M = record { state = refl; nothing = refl }

next_one : (M n : ℕ) (bs : List Bool) → n ≤ 5 → ones n ++ (true ∷ []) ≡ ones (n + 1) → Idles M (inside (n + 1) (ones (n + 1))) bs
    → Idles M (inside n (ones n)) (true ∷ bs)
next_one M n bs h e p =
    reads M (inside n (ones n)) (inside (n + 1) (ones (n + 1))) true bs
    (one-read M n (ones n) h (omega (arith, length-replicate n true))
    ∙ ap {B = Receiver × List Finding} (λ (g : List Bool). (inside (n + 1) g, [])) e) p

next-flag : (M : ℕ) → Idles M flagged flag
next-flag M =
    reads M flagged (inside 0 (ones 0)) false (true ∷ true ∷ true ∷ true ∷ true ∷ true ∷ false ∷ []) (zero-read M 0 [] (omega arith) (omega arith))
    (next_one M 0 (true ∷ true ∷ true ∷ true ∷ true ∷ false ∷ []) (omega arith) refl
    (next_one M 1 (true ∷ true ∷ true ∷ true ∷ false ∷ []) (omega arith) refl
    (next_one M 2 (true ∷ true ∷ true ∷ false ∷ []) (omega arith) refl
    (next_one M 3 (true ∷ true ∷ false ∷ []) (omega arith) refl
    (next_one M 4 (true ∷ false ∷ []) (omega arith) refl (next_one M 5 (false ∷ []) (omega arith) refl (last_bit M)))))))

idles-both : (M : ℕ) (s : Receiver) (xs ys : List Bool) → Idles M s xs → Idles M flagged ys → Idles M s (xs ++ ys)
idles-both M s xs ys p q =
    record {
      state = after_both M s flagged xs ys p.state ∙ q.state;
      nothing = findings-both M s flagged xs ys p.state ∙ ap₂ (λ (a b : List Finding). a ++ b) p.nothing q.nothing;
    }

flags-idle : (M k : ℕ) → Idles M flagged (flags k)
unfolding flags
flags-idle M zero = record { state = refl; nothing = refl }
flags-idle M (suc k) = idles-both M flagged flag (flags k) (next-flag M) (flags-idle M k)

new-flags : (M k : ℕ) → Idles M new_receiver (flags (suc k))
unfolding flags
new-flags M k = idles-both M new_receiver flag (flags k) (new-flag M) (flags-idle M k)

-- ---- units
abbrev pub found : List (List ℕ) → List Finding
found = map (λ c. closed (unit_bits c))

-- a unit is longer on the line than the bits that can wait
long : (c : List ℕ) → 8 ≤ length (unit_line c)
unfolding unit_line
long c = omega (arith, length-append (stuffed 0 (unit_bits c)) flag)

units-long : (c : List ℕ) (cs : List (List ℕ)) → 8 ≤ length (units_line (c ∷ cs))
unfolding units_line
units-long c cs = omega (arith, long c, length-append (unit_line c) (units_line cs))

-- nothing is found in a unit of which a bit waits
unclosed : (M : ℕ) (c : List ℕ) (bits : List Bool) (b : Bool) (w : List Bool) → Allowed M c → bits ++ (b ∷ w) ≡ unit_line c
    → findings M flagged bits ≡ []
unfolding unit_line
unclosed M c bits b w a e =
    let q = closes-last M (unit_bits c) (omega (arith, unit-bits c)) (omega (arith, unit-bits c, a.most)) in
    let p = cut bits q.quiet (false ∷ []) (b ∷ w) (sym q.is ∙ sym e) (omega arith) in
    front-nothing M flagged bits p.between (ap (findings M flagged) (sym p.first) ∙ q.nothing)

none-closed : (n : ℕ) → closed_out n [] ≡ []
unfolding all_but_last
none-closed zero = refl
none-closed (suc n) = refl

first-closed : (n : ℕ) (c d : List ℕ) (cs : List (List ℕ)) → closed_out n (c ∷ d ∷ cs) ≡ c ∷ closed_out n (d ∷ cs)
unfolding all_but_last
first-closed zero c d cs = refl
first-closed (suc n) c d cs = refl

-- the last unit: closed if no bit waits
last-unit : (M : ℕ) (c : List ℕ) (bits w : List Bool) → Allowed M c → bits ++ w ≡ unit_line c
    → findings M flagged bits ≡ found (closed_out (length w) (c ∷ []))
unfolding all_but_last
last-unit M c bits [] a e = ap (findings M flagged) (sym (append-nil bits) ∙ e) ∙ (read-back-unit M c a.most).1
last-unit M c bits (b ∷ w) a e = unclosed M c bits b w a e

units-found : (M : ℕ) (cs : List (List ℕ)) (bits w : List Bool) → AllAllowed M cs → bits ++ w ≡ units_line cs → length w ≤ 7
    → findings M flagged bits ≡ found (closed_out (length w) cs)
unfolding units_line
units-found M [] bits w a e h = ap (findings M flagged) (append-eq-nil_iff.0 e).0 ∙ ap found (sym (none-closed (length w)))
units-found M (c ∷ []) bits w (more a none) e h = last-unit M c bits w a (e ∙ append-nil (unit_line c))
units-found M (c ∷ d ∷ cs) bits w (more a rest) e h =
    let p = cut (unit_line c) bits w (units_line (d ∷ cs)) e (omega (arith, units-long d cs)) in
    let back = read-back-unit M c a.most in
    ap (findings M flagged) p.first
    ∙ findings-both M flagged flagged (unit_line c) p.between back.0
    ∙ ap₂ (λ (x y : List Finding). x ++ y) back.1 (units-found M (d ∷ cs) p.between w rest p.rest h)
    ∙ ap found (sym (first-closed (length w) c d cs))

-- ---- the line
from-flags : (M k : ℕ) (cs : List (List ℕ)) (bits w : List Bool) → AllAllowed M cs → bits ++ w ≡ flags (suc k) ++ units_line cs → length w ≤ 7
    → findings M new_receiver bits ≡ found (closed_out (length w) cs)
unfolding units_line
from-flags M k [] bits w a e h =
    front-nothing M new_receiver bits w (ap (findings M new_receiver) (e ∙ append-nil (flags (suc k))) ∙ (new-flags M k).nothing)
    ∙ ap found (sym (none-closed (length w)))
from-flags M k (c ∷ cs) bits w a e h =
    let p = cut (flags (suc k)) bits w (units_line (c ∷ cs)) e (omega (arith, units-long c cs)) in
    let f = new-flags M k in
    ap (findings M new_receiver) p.first
    ∙ findings-both M new_receiver flagged (flags (suc k)) p.between f.state
    ∙ ap₂ (λ (x y : List Finding). x ++ y) f.nothing (units-found M (c ∷ cs) p.between w a p.rest h)

pub stream-found : (M n : ℕ) (cs : List (List ℕ)) (bits w : List Bool) → AllAllowed M cs → bits ++ w ≡ stream_line n cs → length w ≤ 7
    → findings M new_receiver bits ≡ found (closed_out (length w) cs)
unfolding stream_line flags units_line
stream-found M zero [] bits w a e h = ap (findings M new_receiver) (append-eq-nil_iff.0 e).0 ∙ ap found (sym (none-closed (length w)))
stream-found M zero (c ∷ cs) bits w a e h = from-flags M 0 (c ∷ cs) bits w a e h
stream-found M (suc n) cs bits w a e h = from-flags M n cs bits w a e h
