-- Lines and what they ask for, by computation.
use Rattle.std.specs.Prelude.{◌≡◌, [], ◌∷◌, ◌++◌, true, false, Some, None, codes, refl}
use Rattle.board.specs.Rows.{row_of, table}
use Rattle.console_words.specs.Words.{words, word_of}
use Rattle.console_numbers.specs.Numbers.{decimal_of, octets_of, octets_up_to, pairs_of, mask_of}
use Rattle.console_requests.specs.declared.Area.TheVariants as areas
use Rattle.console_requests.specs.declared.Request.TheVariants as requests
use Rattle.console_requests.specs.Areas.{area_of, number_at, size_of, poke_of}
use Rattle.console_requests.specs.Bookings as bookings
use Rattle.console_requests.specs.Requests.{verb_of, with_octets, request_of}

pub comment : request_of (codes "# a board") ≡ Some requests.Nothing
unfolding request_of
comment = refl

pub fill_alone : request_of (codes "fill") ≡ Some requests.Fill
unfolding request_of words word_of verb_of
fill_alone = refl

pub word_too_many : request_of (codes "fill 1") ≡ None
unfolding request_of words word_of verb_of
word_too_many = refl

pub space_at_the_end : request_of (codes "fill ") ≡ None
unfolding request_of words word_of verb_of
space_at_the_end = refl

pub upper_case_verb : request_of (codes "Fill") ≡ None
unfolding request_of words word_of verb_of
upper_case_verb = refl

pub comment_behind : request_of (codes "fill # now") ≡ None
unfolding request_of words word_of verb_of
comment_behind = refl

pub command_two : request_of (codes "command 02") ≡ Some (requests.Command 2)
unfolding request_of words word_of verb_of number_at decimal_of
command_two = refl

pub receive_octets : request_of (codes "receive 7e00") ≡ Some requests.Receive
unfolding request_of words word_of verb_of with_octets octets_up_to octets_of pairs_of
receive_octets = refl

pub receive_none : request_of (codes "receive") ≡ None
unfolding request_of words word_of verb_of
receive_none = refl

pub size_fixed : request_of (codes "size pool 4608") ≡ Some (requests.Size areas.Pool 4608)
unfolding request_of words word_of verb_of number_at decimal_of size_of area_of
size_fixed = refl

pub size_above : request_of (codes "size pool 4609") ≡ None
unfolding request_of words word_of verb_of number_at decimal_of size_of area_of
size_above = refl

pub size_auto : request_of (codes "size auto") ≡ Some requests.SizeAuto
unfolding request_of words word_of verb_of
size_auto = refl

pub poke_value_above : request_of (codes "poke pool 0 256") ≡ None
unfolding request_of words word_of verb_of number_at decimal_of poke_of area_of
poke_value_above = refl

pub dash_for_octets : request_of (codes "receive -") ≡ None
unfolding request_of words word_of verb_of with_octets octets_up_to octets_of pairs_of
dash_for_octets = refl

pub two_spaces : request_of (codes "read  3") ≡ None
unfolding request_of words word_of verb_of
two_spaces = refl

pub space_at_the_start : request_of (codes " fill") ≡ None
unfolding request_of words word_of verb_of
space_at_the_start = refl

pub tab : request_of (9 ∷ codes "fill") ≡ None
unfolding request_of words word_of verb_of
tab = refl

pub carriage_return : request_of (codes "fill" ++ 13 ∷ []) ≡ None
unfolding request_of words word_of verb_of
carriage_return = refl

pub place_above : request_of (codes "poke desc 40 1") ≡ None
unfolding request_of words word_of verb_of number_at decimal_of poke_of area_of
place_above = refl

pub no_mask : request_of (codes "row 1 16") ≡ None
unfolding request_of words word_of verb_of number_at decimal_of bookings.row_of bookings.booking_at
no_mask = refl

pub row_two :
    request_of (codes "row 2 16 ffffffffff orn filter")
    ≡ Some (requests.Row (record {
      k = 16;
      m = 278;
      n = 16;
      t = 64;
      d = 256;
      a = 1;
      mask = 255 ∷ 255 ∷ 255 ∷ 255 ∷ 255 ∷ [];
      filter = true;
      itu = false;
      orn = true;
    }))
unfolding request_of words word_of verb_of number_at decimal_of mask_of octets_of pairs_of row_of table bookings.row_of bookings.booking_at bookings.switched bookings.switched_all
row_two = refl

pub switch_twice : request_of (codes "row 2 16 ffffffffff orn orn") ≡ None
unfolding request_of words word_of verb_of number_at decimal_of mask_of octets_of pairs_of row_of table bookings.row_of bookings.booking_at bookings.switched bookings.switched_all
switch_twice = refl
