-- Numbers and octets read back as they are printed, and have no space in them.
use Rattle.std.proofs.Common.{◌≡◌, ℕ, ◌/◌, ◌%◌, ◌^◌, ◌<◌, ◌≤◌, Bool, true, false, not, ◌&&◌, eqb, List, [], ◌∷◌, length, refl, ap, arith, rules, Some, decimal}
use borrow.Author.Tests.{le-leb, ne_eqb}
use Rattle.std.specs.Char.{is_ascii_digit}
use Rattle.std.specs.Fmt.{digit_glyph}
use Rattle.std.specs.List.{list_all, flat_map}
use Rattle.std.specs.Str.Parse.{digits_value}
use Rattle.std.proofs.lemmas.Bool.Decides.{nat_tests}
use Rattle.std.proofs.lemmas.Fmt.{digits_decimal, digits_value-decimal, decimal_nonempty}
use Rattle.std.proofs.lemmas.Str.Parse.{IsNumeralModel, numerals_by_value}
use Rattle.text.specs.Hex.{two_digits, hex_text}
use Rattle.console_numbers.specs.Numbers.{decimal_of, digit_of, pairs_of, octets_of}
use Rattle.console_readback.specs.Lines.{AreOctets, none, more}
use Rattle.console_readback.specs.Promises.{NumberReadBack, OctetsReadBack}
use Rattle.console_readback.proofs.Words.{is_word, left, right}

abbrev all_digits : List ℕ → Bool
all_digits = list_all is_ascii_digit

own : IsNumeralModel (λ ds. all_digits ds ≡ true) (digits_value 10)
own = numerals_by_value _ (search rules)

pub number-read-back : NumberReadBack
unfolding decimal_of
number-read-back n h =
    let small : n < 2 ^ 64 = omega arith in
    let some : eqb (length (decimal n)) 0 ≡ false = ne_eqb (length (decimal n)) 0 (λ e. absurd (omega (arith, decimal_nonempty n small, e))) in
    rw (some, digits_decimal own n small, digits_value-decimal own n small, le-leb n 65535 h) refl

-- digits have no space in them
digit_no_space : (d : ℕ) → is_ascii_digit d ≡ true → not (eqb d 32) ≡ true
digit_no_space d h = grind (arith, nat_tests)

pub both : (a b : Bool) → a ≡ true → b ≡ true → a && b ≡ true
both a b e f = rw (e, f) refl

digits_word : (ds : List ℕ) → all_digits ds ≡ true → is_word ds ≡ true
digits_word [] h = refl
digits_word (d ∷ ds) h = both _ _ (digit_no_space d (left _ _ h)) (digits_word ds (right _ _ h))

pub number_word : (n : ℕ) → n ≤ 65535 → is_word (decimal n) ≡ true
number_word n h = digits_word (decimal n) (digits_decimal own n (omega arith))

-- ---- octets
glyph-read : (d : ℕ) → d < 16 → digit_of (digit_glyph false d) ≡ Some d
glyph-read d h = grind (arith, nat_tests)

glyph_no_space : (d : ℕ) → not (eqb (digit_glyph false d) 32) ≡ true
glyph_no_space d = grind (arith, nat_tests)

pairs-read : (octets : List ℕ) → AreOctets octets → pairs_of (flat_map two_digits octets) ≡ Some octets
unfolding pairs_of
pairs-read [] none = refl
pairs-read (x ∷ xs) (more h hs) =
    rw (glyph-read (x / 16) (omega arith), glyph-read (x % 16) (omega arith), pairs-read xs hs) (ap (λ (n : ℕ). Some (n ∷ xs)) (omega arith))

pub octets-read-back : OctetsReadBack
unfolding octets_of hex_text
octets-read-back [] h l = absurd (omega arith)
octets-read-back (x ∷ xs) h l = pairs-read (x ∷ xs) h

pairs_word : (octets : List ℕ) → is_word (flat_map two_digits octets) ≡ true
pairs_word [] = refl
pairs_word (x ∷ xs) = both _ _ (glyph_no_space (x / 16)) (both _ _ (glyph_no_space (x % 16)) (pairs_word xs))

pub octets_word : (octets : List ℕ) → is_word (hex_text octets) ≡ true
unfolding hex_text
octets_word [] = refl
octets_word (x ∷ xs) = pairs_word (x ∷ xs)
