-- Switches named by one word after the other.
use Rattle.std.proofs.Common.{◌≡◌, ℕ, ◌+◌, ◌<◌, ◌≤◌, suc, List, [], ◌∷◌, length, drop, refl, sym, ap, ◌∙◌, add-one, drop-cons, Some, None}
use Rattle.std.specs.List.{slice_get}
use Rattle.std.proofs.Math.ListN.{drop_of_length-le}
use Rattle.std.proofs.lemmas.Option.{none-some, slice_get-get_or, slice_get_within, get_or_from_slice_get}
use Rattle.board.specs.declared.Settings.{Settings}
use Rattle.console_words.specs.Words.{words, word_of}
use Rattle.console_requests.specs.Bookings.{switched, switched_all, switches_at}

split_at : (ws : List (List ℕ)) (at : ℕ) (w : List ℕ) → slice_get ws at ≡ Some w → drop at ws ≡ w ∷ drop (at + 1) ws
split_at ws at w e =
    rw (add-one, drop-cons ws at [] (slice_get_within ws at w e)) (ap (λ (v : List ℕ). v ∷ drop (suc at) ws) (get_or_from_slice_get ws at w [] e))

module _ (line : List ℕ) (at : ℕ) (on : Settings) where
  pub next : (w : List ℕ) (then : Settings) → Some w ≡ word_of line at → Some then ≡ switched on w → switches_at line (at + 1) then ≡ switches_at line at on
  unfolding word_of switched_all
  next w then e s = rw (split_at (words line) at w (sym e), ← s) refl

  pub refused : (w : List ℕ) → Some w ≡ word_of line at → None ≡ switched on w → None ≡ switches_at line at on
  unfolding word_of switched_all
  refused w e s = rw (split_at (words line) at w (sym e), ← s) refl

  pub some_word : at < length (words line) → None ≡ word_of line at → ⊥
  unfolding word_of
  some_word l e = none-some _ (e ∙ slice_get-get_or (words line) at [] l)

  pub done : length (words line) ≤ at → Some on ≡ switches_at line at on
  unfolding switched_all
  done l = rw (drop_of_length-le (words line) l) refl
