-- The law of the reflected count, for any rule: a count that goes up and then down, never below zero, and is tested in between,
-- is tested at T or more exactly at the events that end some stretch which reaches T.
use mathlib.Core.Path.{◌≡◌, refl, sym, ◌∙◌}
use mathlib.Core.Logic.{◌↔◌, ◌⊎◌, inl, inr, ⊎_elim}
use mathlib.Core.Bool.{Bool, false}
use mathlib.Core.List.{List, [], ◌∷◌, ◌++◌}
use Prim.Native.Nat.{ℕ, zero, suc, ◌+◌, ◌-◌, ◌≤◌, ◌<◌}
use native.Mathlib.Nat.{add-suc, suc-add, add-zero}
use native.Mathlib.Decide.{dec_le}
use native.Mathlib.Omega.{arith}
use lib.ListN.{length, length-append, get_or-append}
use lib.Seq.{get_or-append_seam}
use Rattle.monitor.specs.Stretch.{Rule, errored, total, Reaches, First, level, tested}
use Rattle.monitor.specs.Promises.{Law, FirstExists}

-- ---- The tested count is the greatest balance of the stretches that end there.
module _ (r : Rule) (h : List Bool) where
  -- no stretch has a greater balance
  pub peak-greatest : (i k : ℕ) → total r.up h (suc i) (suc k) ≤ tested r h (suc (i + k)) + total r.down h (suc i) k
  unfolding total level tested
  peak-greatest i zero = simp add-zero (omega arith)
  peak-greatest i (suc k) = let b = simp suc-add at (peak-greatest i k) in simp (add-suc, suc-add) (omega arith)

  -- the stretch from event i + 1 to event n + 1 has that balance
  abbrev pub Peak : ℕ → Type 0
  Peak n =
      (i : ℕ) × (k : ℕ) × (i + k ≡ n) × (tested r h (suc n) + total r.down h (suc i) k ≡ total r.up h (suc i) (suc k))

  -- and there is one
  pub peak-reached : (n : ℕ) → Peak n
  unfolding total level tested
  peak-reached zero = (0, 0, refl, omega arith)
  peak-reached (suc n) = go (peak-reached n) (dec_le (r.down (suc n) (errored h (suc n))) (tested r h (suc n)))
    where
      go : Peak n → Dec (r.down (suc n) (errored h (suc n)) ≤ tested r h (suc n)) → Peak (suc n)
      go p (yes q) =
          let b = simp (suc-add, p.2) at p.3 in
          (p.0, suc p.1, omega arith, simp (add-suc, suc-add, p.2) (omega arith))
      go p (no q) = (suc n, 0, omega arith, simp add-zero (omega arith))

-- ---- So the law.
pub law : Law
law T r h n = (to, λ s. from s.first s.more s.from_one s.ends_at s.balance)
  where
    to : T ≤ tested r h (suc n) → Reaches T r h (suc n)
    to q =
        let p = peak-reached r h n in
        record { first = suc p.0; more = p.1; from_one = omega arith; ends_at = omega arith; balance = omega arith }

    from : (i k : ℕ) → 1 ≤ i → i + k ≡ suc n → T + total r.down h i k ≤ total r.up h i (suc k) → T ≤ tested r h (suc n)
    from zero k p e b = omega arith
    from (suc j) k p e b =
        let q : j + k ≡ n = omega arith in
        let a = rw q at (peak-greatest r h j k) in
        omega arith

-- ---- A count that has not been tested at T or more yet.
-- no stretch that ends by event n reaches T
abbrev pub NoneBy : ℕ → Rule → List Bool → ℕ → Type 0
NoneBy T r h n = (m : ℕ) → m ≤ n → ¬ Reaches T r h m

module _ (T : ℕ) (r : Rule) (h : List Bool) where
  pub none-start : NoneBy T r h 0
  none-start m q s = omega (arith, s.from_one, s.ends_at)

  -- the next event is the first exactly if the test finds T or more
  pub none_first : (n : ℕ) → NoneBy T r h n → (T ≤ tested r h (suc n)) ↔ First T r h (suc n)
  none_first n none =
      (λ q. record { reaches = (law T r h n).0 q; none_before = λ m b. none m (omega arith) }, λ w. (law T r h n).1 w.reaches)

  -- and where it does not, none has come yet
  pub none-next : (n : ℕ) → NoneBy T r h n → tested r h (suc n) < T → NoneBy T r h (suc n)
  none-next n none q m b s = go (dec_le m n)
    where
      go : Dec (m ≤ n) → ⊥
      go (yes l) = none m l s
      go (no l) =
          let here : m ≡ suc n = omega arith in
          let t = (law T r h n).1 (rw here at s) in
          omega arith

  -- by event n there is a first one, or none
  first_or_none : (n : ℕ) → NoneBy T r h n ⊎ ((m : ℕ) × (m ≤ n) × First T r h m)
  first_or_none zero = inl none-start
  first_or_none (suc n) = go (first_or_none n) (dec_le T (tested r h (suc n)))
    where
      go : NoneBy T r h n ⊎ ((m : ℕ) × (m ≤ n) × First T r h m) → Dec (T ≤ tested r h (suc n))
          → NoneBy T r h (suc n) ⊎ ((m : ℕ) × (m ≤ suc n) × First T r h m)
      go (inr w) d = inr (w.0, omega arith, w.2)
      go (inl c) (yes q) = inr (suc n, omega arith, (none_first n c).0 q)
      go (inl c) (no q) = inl (none-next n c (omega arith))

pub first-exists : FirstExists
first-exists T r h n s = ⊎_elim (λ c. absurd (c n (omega arith) s)) (λ w. w) (first_or_none T r h n)

-- ---- Later events do not matter.
-- the two have the same first n events
abbrev pub Alike : List Bool → List Bool → ℕ → Type 0
Alike h g n = (j : ℕ) → j ≤ n → errored h j ≡ errored g j

module _ (h g : List Bool) where
  total-local : (f : ℕ → Bool → ℕ) (i k n : ℕ) → i + k ≤ suc n → Alike h g n → total f h i k ≡ total f g i k
  unfolding total
  total-local f i zero n b a = refl
  total-local f i (suc k) n b a = rw (total-local f i k n (omega arith) a, a (i + k) (omega arith))

  pub level-local : (r : Rule) (n : ℕ) → Alike h g n → level r h n ≡ level r g n
  unfolding level
  level-local r zero a = refl
  level-local r (suc n) a = rw (level-local r n (λ j b. a j (omega arith)), a (suc n) (omega arith))

  pub reaches_local : (T : ℕ) (r : Rule) (n : ℕ) → Alike h g n → Reaches T r h n → Reaches T r g n
  reaches_local T r n a s =
      let u = total-local r.up s.first (suc s.more) n (omega arith) a in
      let d = total-local r.down s.first s.more n (omega arith) a in
      record { first = s.first; more = s.more; from_one = s.from_one; ends_at = s.ends_at; balance = omega arith }

-- two lists with the same first n events have the same first event that reaches T by then
pub first-local : (T : ℕ) (r : Rule) (h g : List Bool) (n : ℕ) → Alike h g n → First T r h n → First T r g n
first-local T r h g n a w =
    record {
      reaches = reaches_local h g T r n a w.reaches;
      none_before = λ m b s. w.none_before m b (reaches_local g h T r m (λ j q. sym (a j (omega arith))) s);
    }

-- a list and what it grows to
pub grown : (h es : List Bool) → Alike h (h ++ es) (length h)
grown h es zero b = refl
grown h es (suc j) b = sym (get_or-append h es false j b)

pub first-grown : (T : ℕ) (r : Rule) (h es : List Bool) (n : ℕ) → n ≤ length h → First T r h n ↔ First T r (h ++ es) n
first-grown T r h es n b = (
  first-local T r h (h ++ es) n (λ j q. grown h es j (omega arith)),
  first-local T r (h ++ es) h n (λ j q. sym (grown h es j (omega arith))),
)

-- ---- A running count.
-- the list with one more event
abbrev pub snoc : List Bool → Bool → List Bool
snoc h e = h ++ (e ∷ [])

pub length-snoc : (h : List Bool) (e : Bool) → length (snoc h e) ≡ suc (length h)
length-snoc h e = length-append h (e ∷ []) ∙ omega arith

-- c has followed the events h since the start, and no stretch of them reaches T
pub record Tracks (T : ℕ) (r : Rule) (h : List Bool) (c : ℕ) : Type 0 where
  pub count : c ≡ level r h (length h)
  pub none : NoneBy T r h (length h)

pub tracks-start : (T : ℕ) (r : Rule) → Tracks T r [] 0
unfolding level
tracks-start T r = record { count = refl; none = none-start T r [] }

module _ (T : ℕ) (r : Rule) (h : List Bool) (c : ℕ) (e : Bool) (t : Tracks T r h c) where
  none_here : NoneBy T r (snoc h e) (length h)
  none_here m b s = t.none m b (reaches_local (snoc h e) h T r m (λ j q. sym (grown h (e ∷ []) j (omega arith))) s)

  level-here : level r (snoc h e) (length h) ≡ c
  level-here = sym (t.count ∙ level-local h (snoc h e) r (length h) (grown h (e ∷ [])))

  last-here : errored (snoc h e) (suc (length h)) ≡ e
  last-here = get_or-append_seam h e [] false

  tested-here : tested r (snoc h e) (suc (length h)) ≡ c + r.up (suc (length h)) e
  unfolding tested
  tested-here = rw (level-here, last-here)

  -- the test finds T or more exactly at the first event that ends a stretch which reaches T
  pub tracks-test : (T ≤ c + r.up (suc (length h)) e) ↔ First T r (snoc h e) (suc (length h))
  tracks-test = rw tested-here at (none_first T r (snoc h e) (length h) none_here)

  -- and where it does not, the count goes on
  pub tracks-next : c + r.up (suc (length h)) e < T
      → Tracks T r (snoc h e) (c + r.up (suc (length h)) e - r.down (suc (length h)) e)
  unfolding level
  tracks-next q =
      record {
        count = rw (length-snoc h e, level-here, last-here);
        none = rw (length-snoc h e) (none-next T r (snoc h e) (length h) none_here (rw tested-here q));
      }
