-- The words of a table: each is by the rule at its place.
use mathlib.Core.Path.{◌≡◌, sym, ap, ap₂, ◌∙◌}
use Prim.Native.Nat.{ℕ, zero, suc, ◌+◌, ◌*◌, ◌/◌, ◌%◌, ◌<◌}
use native.Mathlib.Nat.{add-zero, add-suc, suc-add, zero-add, not-suc-le-zero, le_of_suc-le-suc}
use native.Mathlib.Omega.{arith}
use mathlib.Core.List.{List}
use lib.ListN.{get_or}
use Rattle.fcs.specs.Table.{table_from}

word-from : (rule : ℕ → ℕ) (n k i : ℕ) → i < n → get_or (table_from rule k n) i 0 ≡ rule (k + i)
unfolding table_from
word-from rule zero k i h = absurd (not-suc-le-zero h)
word-from rule (suc n) k zero h = ap rule (sym (add-zero k))
word-from rule (suc n) k (suc i) h = word-from rule n (suc k) i (le_of_suc-le-suc h) ∙ ap rule (suc-add k i ∙ sym (add-suc k i))

pub word_at : (rule : ℕ → ℕ) (n i : ℕ) → i < n → get_or (table_from rule 0 n) i 0 ≡ rule i
word_at rule n i h = word-from rule n 0 i h ∙ ap rule (zero-add i)

-- a table of 256 words for each number: the word at place x of number r
pub pair-at : (rule : ℕ → ℕ → ℕ) (table : List ℕ) (n r x : ℕ) → table ≡ table_from (λ i. rule (i / 256) (i % 256)) 0 n → x < 256 → r * 256 + x < n
    → get_or table (r * 256 + x) 0 ≡ rule r x
pair-at rule table n r x e h k =
    let d : (r * 256 + x) / 256 ≡ r = omega arith in
    let m : (r * 256 + x) % 256 ≡ x = omega arith in
    ap (λ (l : List ℕ). get_or l (r * 256 + x) 0) e ∙ word_at (λ i. rule (i / 256) (i % 256)) n (r * 256 + x) k ∙ ap₂ rule d m
