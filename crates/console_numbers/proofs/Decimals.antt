-- Words of decimal digits, which are text.
use Rattle.std.proofs.Common.{◌≡◌, ℕ, ◌<◌, Bool, true, false, List, [], ◌∷◌, ◌&&◌, refl, sym, ap, ◌∙◌, arith, rules, Option, Some, None, Result, Ok, Err, Bor, MatchResult}
use Rattle.std.specs.Char.{is_ascii_digit}
use Rattle.std.specs.List.{list_all}
use Rattle.std.specs.Result.{result_ok}
use Rattle.std.specs.Str.{IsAscii, IsUtf8}
use Rattle.std.specs.Str.Parse.{digits_value, ParsesUnsigned}
use Rattle.std.proofs.lemmas.Bool.Decides.{nat_tests}
use Rattle.std.proofs.lemmas.Option.{same_Some, none-some}
use Rattle.std.proofs.lemmas.Str.{IsUtf8-from_ascii}
use Rattle.std.proofs.lemmas.Str.Ascii.{IsAscii-nil, IsAscii-cons}
use Rattle.std.proofs.lemmas.Str.Parse.{IsNumeralModel, numerals_by_value, parse_digits}
use Rattle.console_numbers.specs.Numbers.{decimal_of}

abbrev all_digits : List ℕ → Bool
all_digits = list_all is_ascii_digit

own : IsNumeralModel (λ ds. all_digits ds ≡ true) (digits_value 10)
own = numerals_by_value _ (search rules)

left : (a b : Bool) → a && b ≡ true → a ≡ true
left true b e = refl
left false b e = absurd (cc)

right : (a b : Bool) → a && b ≡ true → b ≡ true
right true b e = e
right false b e = absurd (cc)

digit-ascii : (d : ℕ) → is_ascii_digit d ≡ true → d < 128
digit-ascii d h = grind (arith, nat_tests)

digits-ascii : (ds : List ℕ) → all_digits ds ≡ true → IsAscii ds
digits-ascii [] h = IsAscii-nil
digits-ascii (d ∷ ds) h = IsAscii-cons d ds (digit-ascii d (left _ _ h)) (digits-ascii ds (right _ _ h))

-- a word of digits is text
pub digits-text : (ds : List ℕ) → all_digits ds ≡ true → IsUtf8 ds
digits-text ds h = IsUtf8-from_ascii ds (digits-ascii ds h)

-- a word with another octet is no number
pub no_digits : (ds : List ℕ) → all_digits ds ≡ false → None ≡ decimal_of ds
unfolding decimal_of
no_digits ds h = grind (arith, nat_tests, h)

-- what `from_utf8` gives of digits is they themselves
module _ {E : Type 0} (ds : List ℕ) (fault : E → Type 0) where
  pub digits-read : (r : Result (Bor (List ℕ)) E) (s : Bor (List ℕ)) → MatchResult r (λ s. (s.now ≡ ds) × IsUtf8 ds) (λ e. ¬ (IsUtf8 ds) × fault e) → result_ok r ≡ Some s → s.now ≡ ds
  digits-read (Ok x) s h e = ap (λ (t : Bor (List ℕ)). t.now) (sym (same_Some x s e)) ∙ h.0
  digits-read (Err x) s h e = absurd (none-some s e)

  pub digits-refused : (r : Result (Bor (List ℕ)) E) → all_digits ds ≡ true → MatchResult r (λ s. (s.now ≡ ds) × IsUtf8 ds) (λ e. ¬ (IsUtf8 ds) × fault e) → result_ok r ≡ None → ⊥
  digits-refused (Ok x) d h e = none-some x (sym e)
  digits-refused (Err x) d h e = h.0 (digits-text ds d)

-- what `parse` gives of digits
pub digits-parsed : {E : Type 0} (ds : List ℕ) (r : Result ℕ E) (o : Option ℕ) → all_digits ds ≡ true → ParsesUnsigned 16 10 ds r → o ≡ result_ok r → o ≡ decimal_of ds
unfolding decimal_of
digits-parsed {E} ds (Ok x) o h p e = let q = parse_digits own {E = E} 16 ds (Ok x) p h in grind (arith, nat_tests, q, h, e)
digits-parsed {E} ds (Err x) o h p e = let q = parse_digits own {E = E} 16 ds (Err x) p h in grind (arith, nat_tests, q, h, e)
