-- Words and what they say, by computation.
use Rattle.std.specs.Prelude.{◌≡◌, [], ◌∷◌, Some, None, codes, refl}
use Rattle.console_numbers.specs.Numbers.{decimal_of, octets_of, octets_up_to, pairs_of, mask_of}

pub leading_zeros : decimal_of (codes "0000007") ≡ Some 7
unfolding decimal_of
leading_zeros = refl

pub highest : decimal_of (codes "65535") ≡ Some 65535
unfolding decimal_of
highest = refl

pub above_the_highest : decimal_of (codes "65536") ≡ None
unfolding decimal_of
above_the_highest = refl

pub signed : decimal_of (codes "+7") ≡ None
unfolding decimal_of
signed = refl

pub no_number : decimal_of [] ≡ None
unfolding decimal_of
no_number = refl

pub two_octets : octets_of (codes "7e0f") ≡ Some (126 ∷ 15 ∷ [])
unfolding octets_of pairs_of
two_octets = refl

pub upper_case : octets_of (codes "7E") ≡ None
unfolding octets_of pairs_of
upper_case = refl

pub three_digits : octets_of (codes "7e0") ≡ None
unfolding octets_of pairs_of
three_digits = refl

pub no_digit : octets_of [] ≡ None
unfolding octets_of
no_digit = refl

pub too_many : octets_up_to 1 (codes "7e0f") ≡ None
unfolding octets_up_to octets_of pairs_of
too_many = refl

pub five_octets : mask_of (codes "ffff010000") ≡ Some (255 ∷ 255 ∷ 1 ∷ 0 ∷ 0 ∷ [])
unfolding mask_of octets_of pairs_of
five_octets = refl

pub four_octets : mask_of (codes "ffff0100") ≡ None
unfolding mask_of octets_of pairs_of
four_octets = refl
