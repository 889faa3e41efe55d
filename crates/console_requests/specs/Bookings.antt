-- "MASK ten hex digits; the rest of the line names the switches that are on", "switches in any order, each once".
use Rattle.std.specs.Prelude.{ℕ, ◌+◌, true, false, not, ◌&&◌, List, [], ◌∷◌, drop, Option, Some, None, if◌then◌else◌, codes}
use Rattle.std.specs.Str.{bytes_eq}
use Rattle.board.specs.declared.Settings.{Settings}
use Rattle.board.specs.declared.rows.Row.{Row}
use Rattle.board.specs.Rows as rows
use Rattle.console_words.specs.Words.{words, word_of}
use Rattle.console_numbers.specs.Numbers.{◌>>=◌, mask_of}
use Rattle.console_requests.specs.Areas.{number_at}

-- the settings with the switch on that a word names, if it was off
unfoldable pub switched : Settings → List ℕ → Option Settings
switched settings word =
    if bytes_eq word (codes "filter") && not settings.filter then Some (record settings { filter = true })
    else (if bytes_eq word (codes "itu") && not settings.itu then Some (record settings { itu = true })
    else (if bytes_eq word (codes "orn") && not settings.orn then Some (record settings { orn = true })
    else None))

-- the settings with the switches on that words name, one after the other
unfoldable pub switched_all : Settings → List (List ℕ) → Option Settings
switched_all settings [] = Some settings
switched_all settings (word ∷ others) = switched settings word >>= λ next. switched_all next others

abbrev pub switches_at : List ℕ → ℕ → Settings → Option Settings
switches_at line i settings = switched_all settings (drop i (words line))

-- K slots and the numbers of a row, with the mask at word i and the switches behind it
unfoldable pub booking_at : List ℕ → ℕ → ℕ → Row → Option Settings
booking_at line i k row = do
  word ← word_of line i
  mask ← mask_of word
  switches_at line (i + 1) (record {
    k = k;
    m = row.m;
    n = row.n;
    t = row.t;
    d = row.d;
    a = row.a;
    mask = mask;
    filter = false;
    itu = false;
    orn = false;
  })

-- open K M N T D A MASK [filter] [itu] [orn]
unfoldable pub open_of : List ℕ → Option Settings
open_of line = do
  k ← number_at line 1
  m ← number_at line 2
  n ← number_at line 3
  t ← number_at line 4
  d ← number_at line 5
  a ← number_at line 6
  booking_at line 7 k (record { m = m; n = n; t = t; d = d; a = a })

-- row R K MASK [filter] [itu] [orn]
unfoldable pub row_of : List ℕ → Option Settings
row_of line = do
  number ← number_at line 1
  k ← number_at line 2
  booking_at line 3 k (rows.row_of number)
