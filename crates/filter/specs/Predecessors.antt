-- The filter by its predecessors, with no memory: "Predecessors are the good units directly before, those with errors set aside."
-- A history here has its last input first.
use Rattle.std.specs.Prelude.{ℕ, zero, suc, ◌≡◌, Bool, true, false, not, ◌&&◌, ◌||◌, List, [], ◌∷◌, ◌++◌}
use Rattle.bits.specs.Format.{Format}
use Rattle.filter.specs.declared.Kind.{Kind}
use Rattle.filter.specs.declared.Kind.TheVariants.{FillIn, LinkStatus, Message}
use Rattle.filter.specs.Unit.{kind_of, alike}
use Rattle.filter.specs.History.{FilterInput, good, command-4}

abbrev pub is_message : Kind → Bool
is_message FillIn = false
is_message LinkStatus = false
is_message Message = true

-- how many predecessors in a row must be like a unit for it to be dropped: a fill-in unit one, "a link status unit needs two in a row",
-- a message unit never is
abbrev pub needs : Kind → (ℕ → Bool) → Bool
needs FillIn in_row = in_row 1
needs LinkStatus in_row = in_row 2
needs Message in_row = false

module _ (F : Format) where
  -- The last k inputs were good units like u, none of them a message and none of them lost. (A unit is lost if it is not
  -- dropped and its slot is not free.)
  unfoldable pub row : List ℕ → List FilterInput → ℕ → List ℕ → Bool
  row mask [] zero u = true
  row mask [] (suc k) u = false
  row mask (command-4 ∷ hs) zero u = true
  row mask (command-4 ∷ hs) (suc k) u = false
  row mask (good v free ∷ hs) zero u = true
  row mask (good v free ∷ hs) (suc k) u =
      not (is_message (kind_of F v)) && (alike mask v u && ((needs (kind_of F v) (λ j. row mask hs j v) || free) && row mask hs k u))

  -- with the filter on, a good unit u that comes after this history is dropped
  abbrev pub dropped_after : List ℕ → List FilterInput → List ℕ → Bool
  dropped_after mask hs u = needs (kind_of F u) (λ k. row mask hs k u)

-- each of these inputs, the last first and with the older ones behind them, was a good unit: no message, not lost, and no command 4
pub data Unbroken (F : Format) (mask : List ℕ) (older : List FilterInput) : List FilterInput → Type 0 where
  none : Unbroken F mask older []
  more : {v : List ℕ} {free : Bool} {hs : List FilterInput} → is_message (kind_of F v) ≡ false → dropped_after F mask (hs ++ older) v || free ≡ true
      → Unbroken F mask older hs → Unbroken F mask older (good v free ∷ hs)

-- "So each dropped unit had its like handed over": an earlier unit like u, not dropped and with its slot free, and nothing since then
-- that empties the memory
pub record HadItsLike (F : Format) (mask : List ℕ) (hs : List FilterInput) (u : List ℕ) : Type 0 where
  pub like : List ℕ
  pub between : List FilterInput
  pub older : List FilterInput
  pub split : hs ≡ between ++ (good like true ∷ older)
  pub not-dropped : dropped_after F mask older like ≡ false
  pub is-like : alike mask like u ≡ true
  pub unbroken : Unbroken F mask (good like true ∷ older) between
