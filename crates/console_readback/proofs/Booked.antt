-- Each booking is asked for by its line.
use Rattle.std.proofs.Common.{◌≡◌, ℕ, ◌+◌, Bool, true, false, List, ◌∷◌, ◌++◌, length, drop, refl, ap, ◌∙◌, arith, codes, Some, decimal}
use borrow.Author.Tests.{eq-eqb}
use Rattle.std.specs.List.{slice_get}
use Rattle.text.specs.Hex.{hex_text}
use Rattle.board.specs.declared.Settings.{Settings}
use Rattle.board.specs.declared.rows.Row.{Row}
use Rattle.board.specs.Rows as rows
use Rattle.console_words.specs.Words.{words, word_of}
use Rattle.console_numbers.specs.Numbers.{mask_of}
use Rattle.console_requests.specs.declared.grammar.Verb.TheVariants as verbs
use Rattle.console_requests.specs.Bookings.{switched, switched_all, booking_at, open_of, row_of}
use Rattle.console_readback.specs.Lines.{AreOctets, InRange, switch, switches, booking, open_line, row_line}
use Rattle.console_readback.specs.Promises.{OpensAsked, RowsAsked}
use Rattle.console_readback.proofs.Words.{are_words, words-spaced}
use Rattle.console_readback.proofs.Printed.{both, number_word, octets-read-back, octets_word}
use Rattle.console_readback.proofs.Asked.{asked, number-at}

-- settings of a row with the switches given
abbrev with_row : ℕ → Row → List ℕ → Bool → Bool → Bool → Settings
with_row k row mask f i o =
    record { k = k; m = row.m; n = row.n; t = row.t; d = row.d; a = row.a; mask = mask; filter = f; itu = i; orn = o }

abbrev names : Bool → Bool → Bool → List (List ℕ)
names f i o = switch f (codes "filter") ++ (switch i (codes "itu") ++ switch o (codes "orn"))

-- the switches that are named are on
turned_on : (k : ℕ) (row : Row) (mask : List ℕ) (f i o : Bool) → switched_all (with_row k row mask false false false) (names f i o) ≡ Some (with_row k row mask f i o)
unfolding switched switched_all
turned_on k row mask false false false = refl
turned_on k row mask false false true = refl
turned_on k row mask false true false = refl
turned_on k row mask false true true = refl
turned_on k row mask true false false = refl
turned_on k row mask true false true = refl
turned_on k row mask true true false = refl
turned_on k row mask true true true = refl

names_words : (f i o : Bool) → are_words (names f i o) ≡ true
names_words false false false = refl
names_words false false true = refl
names_words false true false = refl
names_words false true true = refl
names_words true false false = refl
names_words true false true = refl
names_words true true false = refl
names_words true true true = refl

booking_words : (s : Settings) → are_words (booking s) ≡ true
booking_words s = both _ _ (octets_word s.mask) (names_words s.filter s.itu s.orn)

mask-read : (mask : List ℕ) → AreOctets mask → length mask ≡ 5 → mask_of (hex_text mask) ≡ Some mask
unfolding mask_of
mask-read mask h five = rw (octets-read-back mask h (omega arith), eq-eqb (length mask) 5 five) refl

-- a mask as word i, and the switches behind it
booked : (line : List ℕ) (i : ℕ) (row : Row) (s : Settings) → InRange s → slice_get (words line) i ≡ Some (hex_text s.mask) → drop (i + 1) (words line) ≡ switches s → booking_at line i s.k row ≡ Some (with_row s.k row s.mask s.filter s.itu s.orn)
unfolding booking_at word_of
booked line i row s r e f = rw (e, mask-read s.mask r.octets r.five, f) (turned_on s.k row s.mask s.filter s.itu s.orn)

pub opens-asked : OpensAsked
unfolding open_of
opens-asked s r =
    let line = open_line s in
    let ws = decimal s.k ∷ decimal s.m ∷ decimal s.n ∷ decimal s.t ∷ decimal s.d ∷ decimal s.a ∷ booking s in
    let numbers : are_words ws ≡ true = both _ _ (number_word s.k r.k) (both _ _ (number_word s.m r.m) (both _ _ (number_word s.n r.n) (both _ _ (number_word s.t r.t) (both _ _ (number_word s.d r.d) (both _ _ (number_word s.a r.a) (booking_words s)))))) in
    let e : words line ≡ codes "open" ∷ ws = words-spaced (codes "open") ws numbers in
    let at : (i : ℕ) → slice_get (words line) i ≡ slice_get (codes "open" ∷ ws) i = λ i. ap (λ (ws : List (List ℕ)). slice_get ws i) e in
    let b : booking_at line 7 s.k (record { m = s.m; n = s.n; t = s.t; d = s.d; a = s.a }) ≡ Some s = booked line 7 (record { m = s.m; n = s.n; t = s.t; d = s.d; a = s.a }) s r (at 7) (ap (drop 8) e) in
    asked line verbs.Open ws refl refl e refl
    ∙ rw (number-at line 1 s.k (at 1) r.k, number-at line 2 s.m (at 2) r.m, number-at line 3 s.n (at 3) r.n, number-at line 4 s.t (at 4) r.t, number-at line 5 s.d (at 5) r.d, number-at line 6 s.a (at 6) r.a, b) refl

pub rows-asked : RowsAsked
unfolding row_of
rows-asked number s l r =
    let line = row_line number s in
    let ws = decimal number ∷ decimal s.k ∷ booking s in
    let e : words line ≡ codes "row" ∷ ws = words-spaced (codes "row") ws (both _ _ (number_word number l) (both _ _ (number_word s.k r.k) (booking_words s))) in
    let at : (i : ℕ) → slice_get (words line) i ≡ slice_get (codes "row" ∷ ws) i = λ i. ap (λ (ws : List (List ℕ)). slice_get ws i) e in
    let b = booked line 3 (rows.row_of number) s r (at 3) (ap (drop 4) e) in
    asked line verbs.Row ws refl refl e refl
    ∙ rw (number-at line 1 number (at 1) l, number-at line 2 s.k (at 2) r.k, b) refl
