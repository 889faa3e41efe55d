-- The words of what is promised: events since a start, stretches of them, their balance, and the first event that ends one which reaches the threshold.
-- Said for any step up and down, so that one law serves every monitor.
use Rattle.std.specs.Prelude.{ℕ, zero, suc, ◌+◌, ◌-◌, ◌≤◌, ◌<◌, ◌%◌, ◌≡◌, Bool, false, List, eqb, get_or}
use Rattle.bits.specs.Octets.{worth}

-- What an event, by its number since the start and whether it is errored, adds to the count, and what it then takes off.
pub record Rule : Type 0 where
  pub up : ℕ → Bool → ℕ
  pub down : ℕ → Bool → ℕ

-- "Events after a start count from 1": whether event n of those since the start, oldest first, is errored
abbrev pub errored : List Bool → ℕ → Bool
errored h zero = false
errored h (suc n) = get_or h n false

-- "each D-th is a decay point"
abbrev pub decay_point : ℕ → ℕ → Bool
decay_point D n = eqb (n % D) 0

-- the failure monitor: an errored event adds 1, a decay point takes off 1
abbrev pub failures : ℕ → Rule
failures D = record { up = λ n e. worth e; down = λ n e. worth (decay_point D n) }

-- the alignment monitor: an errored event adds 1, nothing is taken off
abbrev pub alignments : Rule
alignments = record { up = λ n e. worth e; down = λ n e. 0 }

-- an amount summed over k events in a row from the i-th on
unfoldable pub total : (ℕ → Bool → ℕ) → List Bool → ℕ → ℕ → ℕ
total f h i zero = 0
total f h i (suc k) = total f h i k + f (i + k) (errored h (i + k))

-- Some stretch that ends at event n reaches T. "A stretch is one or more in a row; its balance, errored events less decay
-- points before its last event, reaches the threshold at T or more": what is added is at least T more than what is taken off.
pub record Reaches (T : ℕ) (r : Rule) (h : List Bool) (n : ℕ) : Type 0 where
  pub first : ℕ
  pub more : ℕ
  pub from_one : 1 ≤ first
  pub ends_at : first + more ≡ n
  pub balance : T + total r.down h first more ≤ total r.up h first (suc more)

-- event n is the first since the start that ends such a stretch
pub record First (T : ℕ) (r : Rule) (h : List Bool) (n : ℕ) : Type 0 where
  pub reaches : Reaches T r h n
  pub none_before : (m : ℕ) → m < n → ¬ Reaches T r h m

-- The reflected count after the first n events: each adds, then takes off, not below zero
unfoldable pub level : Rule → List Bool → ℕ → ℕ
level r h zero = 0
level r h (suc n) = level r h n + r.up (suc n) (errored h (suc n)) - r.down (suc n) (errored h (suc n))

-- the count at which event n is tested: with what it adds, before anything is taken off
unfoldable pub tested : Rule → List Bool → ℕ → ℕ
tested r h zero = 0
tested r h (suc n) = level r h n + r.up (suc n) (errored h (suc n))
