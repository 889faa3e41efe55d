-- N's counter over octets in which nothing is found: where it stands, and what happens.
use Prim.Native.Nat.{ℕ, zero, suc, ◌+◌, ◌-◌, ◌*◌, ◌%◌, ◌≤◌, ◌<◌}
use mathlib.Core.Path.{◌≡◌, refl, sym, ap, ap₂, ◌∙◌}
use mathlib.Core.Bool.{Bool, true, false, cond, ◌&&◌, false≢true}
use mathlib.Core.List.{List, [], ◌∷◌, ◌++◌}
use native.Mathlib.Nat.{mod-eq_of_lt, add-mod_left, add-zero}
use native.Mathlib.Omega.{arith}
use borrow.Author.Tests.{ne_eqb, eqb-true, eqb-false}
use lib.Dec.{eqb}
use lib.ListN.{length, replicate, replicate-append-replicate}
use lib.Seq.{sets}
use Rattle.board.specs.Limits.{record_octets, monitor_limits}
use Rattle.board.specs.declared.Settings.{Settings}
use Rattle.records.specs.declared.Happening.{Happening}
use Rattle.records.specs.Record.{supervision_after, records_of}
use Rattle.units.specs.Indications.{Indication, octet_end}
use Rattle.units.specs.Units.{UnitMemory, unit_memory, ticks, tick_of, octet_effect, effect_of, next_unit_memory, unit_memory_after, happenings}
use Rattle.indications.specs.declared.Progress.{Progress}
use Rattle.indications.specs.InnerWriting.{CallState, holding, indications_done, with_left, CounterMoved}
use Rattle.indications.proofs.Recording.{indications-append}
use Rattle.indications.proofs.Ends.{octet-ended}
use Rattle.reception.proofs.Octets.{happenings-five}
use Rattle.octet_reception.specs.Counter.{wound_by}

-- ---- the counter by itself
module _ (n : ℕ) where
  -- one octet of the counter
  down : (left : ℕ) → 1 < left → cond (eqb left 1) n (left - 1) ≡ left - 1
  down left h = rw (ne_eqb left 1 (λ e. omega (arith, e)))

  -- until its end it runs down
  pub wound-down : (k left : ℕ) → k < left → wound_by n left k ≡ left - k
  unfolding wound_by
  wound-down zero left h = omega arith
  wound-down (suc k) left h =
      let e : left - 1 - k ≡ left - suc k = omega arith in
      ap (λ (x : ℕ). wound_by n x k) (down left (omega arith)) ∙ wound-down k (left - 1) (omega arith) ∙ e

  -- from its end it runs from N
  wound-on : (k left : ℕ) → 1 ≤ left → left ≤ k → wound_by n left k ≡ wound_by n n (k - left)
  unfolding wound_by
  wound-on zero left h l = absurd (omega arith)
  wound-on (suc k) left h l = go (eqb left 1) refl (wound-on k)
    where
      go : (b : Bool) → eqb left 1 ≡ b → ((j : ℕ) → 1 ≤ j → j ≤ k → wound_by n j k ≡ wound_by n n (k - j)) → wound_by n (cond b n (left - 1)) k ≡ wound_by n n (suc k - left)
      go true e later =
          let x = eqb-true left 1 e in
          let y : k ≡ suc k - left = omega (arith, x) in
          ap (wound_by n n) y
      go false e later =
          let x = eqb-false left 1 e in
          let y : k - (left - 1) ≡ suc k - left = omega (arith, x) in
          later (left - 1) (omega (arith, x)) (omega (arith, x)) ∙ ap (wound_by n n) y

  wound-end : (k left : ℕ) → 1 ≤ left → k ≡ left → wound_by n left k ≡ n
  unfolding wound_by
  wound-end k left h e =
      let z : k - left ≡ 0 = omega (arith, e) in
      wound-on k left h (omega (arith, e)) ∙ ap (wound_by n n) z

  -- round and round
  round : (k left : ℕ) → 1 ≤ left → left ≤ n → wound_by n left k ≡ n - (n - left + k) % n
  unfolding wound_by
  round zero left h l =
      let e : n - left + 0 ≡ n - left = omega arith in
      let m : (n - left + 0) % n ≡ n - left = ap (λ (x : ℕ). x % n) e ∙ mod-eq_of_lt {n = n - left} (omega arith) in
      omega (arith, m)
  round (suc k) left h l = go (eqb left 1) refl (round k)
    where
      go : (b : Bool) → eqb left 1 ≡ b → ((j : ℕ) → 1 ≤ j → j ≤ n → wound_by n j k ≡ n - (n - j + k) % n) → wound_by n (cond b n (left - 1)) k ≡ n - (n - left + suc k) % n
      go true e later =
          let x = eqb-true left 1 e in
          let y : n - left + suc k ≡ n + k = omega (arith, x) in
          let z : n - n + k ≡ k = omega arith in
          later n (omega arith) (omega arith) ∙ ap (λ (j : ℕ). n - j % n) z ∙ ap (λ (j : ℕ). n - j) (sym (add-mod_left n k) ∙ ap (λ (j : ℕ). j % n) (sym y))
      go false e later =
          let x = eqb-false left 1 e in
          let y : n - (left - 1) + k ≡ n - left + suc k = omega (arith, x) in
          later (left - 1) (omega (arith, x)) (omega arith) ∙ ap (λ (j : ℕ). n - j % n) y

  pub wound-round : (k left : ℕ) → 1 ≤ n → 1 ≤ left → left ≤ k → wound_by n left k ≡ n - (k - left) % n
  wound-round k left m h l =
      let z : n - n + (k - left) ≡ k - left = omega arith in
      wound-on k left h l ∙ round (k - left) n m (omega arith) ∙ ap (λ (j : ℕ). n - j % n) z

-- ---- octets in which nothing is found
abbrev ends : ℕ → List Indication
ends k = replicate k octet_end

module _ (s : Settings) where
  -- only the counter moves
  counter-after : (k : ℕ) (o : UnitMemory)
      → unit_memory_after s o (ends k) ≡ unit_memory (with_left o.units (wound_by s.n o.units.counting.left k)) o.pool o.descriptors
  unfolding unit_memory_after effect_of octet_effect wound_by
  counter-after zero o = refl
  counter-after (suc k) o = counter-after k (next_unit_memory s o octet_end)

  not-ticking : (o : UnitMemory) (due : Bool) → o.units.counting.on ≡ false → ticks due o.units.counting.on (tick_of o.units.counts.good) ≡ []
  not-ticking o true e = rw e
  not-ticking o false e = refl

  -- out of octet counting nothing happens,
  pub quiet-off : (k : ℕ) (o : UnitMemory) → o.units.counting.on ≡ false → happenings s o (ends k) ≡ []
  unfolding happenings effect_of octet_effect
  quiet-off zero o e = refl
  quiet-off (suc k) o e =
      ap₂ (λ (x y : List Happening). x ++ y) (not-ticking o (eqb o.units.counting.left 1) e) (quiet-off k (next_unit_memory s o octet_end) e)

  -- nor does anything in it before the counter's end
  pub quiet-early : (k : ℕ) (o : UnitMemory) → k < o.units.counting.left → happenings s o (ends k) ≡ []
  unfolding happenings effect_of octet_effect
  quiet-early zero o h = refl
  quiet-early (suc k) o h =
      ap₂ (λ (x y : List Happening). x ++ y)
      (early (λ e. omega (arith, e, h)))
      (quiet-early k (next_unit_memory s o octet_end) (let d = down s.n o.units.counting.left (omega arith) in omega (arith, d)))
    where
      early : (o.units.counting.left ≡ 1 → ⊥) → ticks (eqb o.units.counting.left 1) o.units.counting.on (tick_of o.units.counts.good) ≡ []
      early l = rw (ne_eqb o.units.counting.left 1 l)

module _ (s : Settings) (p : Progress) (out : List ℕ) (pool descriptors : List ℕ) where
  abbrev here : CallState
  here = holding p pool descriptors out

  abbrev at_left : ℕ → Progress
  at_left left = record { units = with_left p.units left; supervision = p.supervision; count = p.count }

  -- octets from which nothing happens
  ends-quiet : (k left : ℕ) → left ≡ wound_by s.n p.units.counting.left k → happenings s here.unit_memory (ends k) ≡ []
      → holding (at_left left) pool descriptors out ≡ indications_done s here (ends k)
  unfolding indications_done supervision_after records_of
  ends-quiet k left e h =
      let o = counter-after s k here.unit_memory in
      ap₂ (λ (x c : ℕ). holding (record { units = with_left p.units x; supervision = p.supervision; count = c }) pool descriptors out) e (sym (add-zero p.count))
      ∙ ap₂ (λ (x : UnitMemory) (hs : List Happening). done x hs) (sym o) (sym h)
    where
      done : UnitMemory → List Happening → CallState
      done x hs =
          record {
            unit_memory = x;
            supervision = supervision_after (monitor_limits s) p.supervision hs;
            out = sets out (record_octets * p.count) (records_of (monitor_limits s) p.supervision hs);
            count = p.count + length hs;
          }

  -- octets of which the last brings the tick
  ends-tick : (k left : ℕ) → left ≡ wound_by s.n p.units.counting.left k → k ≡ p.units.counting.left → 1 ≤ p.units.counting.left
      → p.units.counting.on ≡ true → (r : Progress) (out' : List ℕ) → CounterMoved s p left true out r out'
      → holding r pool descriptors out' ≡ indications_done s here (ends k)
  ends-tick zero left e i l on r out' q = absurd (omega arith)
  ends-tick (suc k) left e i l on r out' q =
      let d : wound_by s.n p.units.counting.left k ≡ 1 = wound-down s.n k p.units.counting.left (omega (arith, i)) ∙ (omega (arith, i)) in
      let j : k + 1 ≡ suc k = omega arith in
      octet-ended s (at_left 1) left (e ∙ wound-end s.n (suc k) p.units.counting.left l i) pool descriptors out r out' true (sym on) q
      ∙ ap (λ (x : CallState). indications_done s x (octet_end ∷ [])) (ends-quiet k 1 (sym d) (quiet-early s k here.unit_memory (omega (arith, i))))
      ∙ sym (indications-append s here (ends k) (octet_end ∷ []) (happenings-five s (ends k) here.unit_memory))
      ∙ ap (indications_done s here) (replicate-append-replicate k 1 octet_end ∙ ap ends j)

  -- of octets up to the counter's end only the last may bring one
  pub octets-ended : (k left : ℕ) → left ≡ wound_by s.n p.units.counting.left k → 1 ≤ p.units.counting.left → (p.units.counting.on ≡ true → k ≤ p.units.counting.left)
      → (due : Bool) → due ≡ (p.units.counting.on && eqb k p.units.counting.left) → (r : Progress) (out' : List ℕ) → CounterMoved s p left due out r out'
      → holding r pool descriptors out' ≡ indications_done s here (ends k)
  octets-ended k left e l few due d r out' m = go p.units.counting.on refl (eqb k p.units.counting.left) refl due d m
    where
      quiet : happenings s here.unit_memory (ends k) ≡ [] → CounterMoved s p left false out r out' → holding r pool descriptors out' ≡ indications_done s here (ends k)
      quiet h m = ap₂ (λ (x : Progress) (y : List ℕ). holding x pool descriptors y) m.0 m.1 ∙ ends-quiet k left e h

      go : (on : Bool) → p.units.counting.on ≡ on → (at_end : Bool) → eqb k p.units.counting.left ≡ at_end → (due : Bool) → due ≡ (on && at_end)
          → CounterMoved s p left due out r out' → holding r pool descriptors out' ≡ indications_done s here (ends k)
      go true o true i true d m = ends-tick k left e (eqb-true k p.units.counting.left i) l o r out' m
      go true o true i false d m = absurd (false≢true d)
      go true o false i true d m = absurd (false≢true (sym d))
      go true o false i false d m =
          let n = eqb-false k p.units.counting.left i in
          let f = few o in
          quiet (quiet-early s k here.unit_memory (omega (arith, n, f))) m
      go false o at_end i true d m = absurd (false≢true (sym d))
      go false o at_end i false d m = quiet (quiet-off s k here.unit_memory o) m
