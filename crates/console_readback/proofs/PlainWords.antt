-- Each word of a line that is read is digits and lower-case letters.
use Rattle.std.proofs.Common.{◌≡◌, ℕ, Bool, true, false, not, cond, eqb, List, [], ◌∷◌, length, refl, sym, ap, ◌∙◌, arith, Option, Some, None, find}
use Rattle.std.specs.Char.{is_ascii_digit}
use Rattle.std.specs.List.{list_all}
use Rattle.std.specs.Option.{option_map}
use Rattle.std.specs.Str.{bytes_eq}
use Rattle.std.proofs.lemmas.Bool.Decides.{nat_tests}
use Rattle.std.proofs.lemmas.Option.{none-some, same_Some, option_and_then_some}
use Rattle.std.proofs.lemmas.Slice.Eq.{bytes_eq-Decides}
use Rattle.console_numbers.specs.Numbers.{decimal_of, digit_of, pairs_of, octets_of}
use Rattle.console_readback.specs.Plain.{is_plain, is_plain_word}
use Rattle.console_readback.proofs.Words.{left, right}
use Rattle.console_readback.proofs.Printed.{both}

-- ---- what an answer that is there says
pub if_some : {A : Type 0} (b : Bool) (o : Option A) (y : A) → cond b o None ≡ Some y → (b ≡ true) × (o ≡ Some y)
if_some true o y e = (refl, e)
if_some false o y e = absurd (none-some y e)

pub map_some : {A B : Type 0} (f : A → B) (o : Option A) (y : B) → option_map f o ≡ Some y → (x : A) × (o ≡ Some x)
map_some f None y e = absurd (none-some y e)
map_some f (Some x) y e = (x, refl)

pub found : {A : Type 0} (p : A → Bool) (xs : List A) (y : A) → find p xs ≡ Some y → p y ≡ true
found p [] y e = absurd (none-some y e)
found p (x ∷ xs) y e = go (p x) refl (found p xs y) e
  where
    go : (b : Bool) → p x ≡ b → (find p xs ≡ Some y → p y ≡ true) → cond b (Some x) (find p xs) ≡ Some y → p y ≡ true
    go true h f e = ap p (sym (same_Some x y e)) ∙ h
    go false h f e = f e

pub same_word : (xs ys : List ℕ) → bytes_eq xs ys ≡ true → xs ≡ ys
same_word xs ys h = (bytes_eq-Decides xs ys).0 h

-- ---- words that say something
all-weaker : (p q : ℕ → Bool) → ((x : ℕ) → p x ≡ true → q x ≡ true) → (xs : List ℕ) → list_all p xs ≡ true → list_all q xs ≡ true
all-weaker p q f [] h = refl
all-weaker p q f (x ∷ xs) h = both _ _ (f x (left _ _ h)) (all-weaker p q f xs (right _ _ h))

plain_digit : (x : ℕ) → is_ascii_digit x ≡ true → is_plain x ≡ true
plain_digit x h = rw h refl

pub plain_number : (w : List ℕ) (n : ℕ) → decimal_of w ≡ Some n → is_plain_word w ≡ true
unfolding decimal_of
plain_number w n e =
    let h = (if_some _ _ n e).0 in
    both _ _ (left _ _ (left _ _ h)) (all-weaker is_ascii_digit is_plain plain_digit w (right _ _ (left _ _ h)))

plain_hex_digit : (x d : ℕ) → digit_of x ≡ Some d → is_plain x ≡ true
plain_hex_digit x d e = grind (arith, nat_tests)

plain_pairs : (w os : List ℕ) → pairs_of w ≡ Some os → list_all is_plain w ≡ true
unfolding pairs_of
plain_pairs [] os e = refl
plain_pairs (x ∷ []) os e = absurd (none-some os e)
plain_pairs (x ∷ y ∷ w) os e =
    option_and_then_some _ (digit_of x) os e
    (λ h eh. λ fh. option_and_then_some _ (digit_of y) os fh
    (λ l el fl. option_and_then_some _ (pairs_of w) os fl
    (λ rest er fr. both _ _ (plain_hex_digit x h eh) (both _ _ (plain_hex_digit y l el) (plain_pairs w rest er)))))

pub plain_octets : (w os : List ℕ) → octets_of w ≡ Some os → is_plain_word w ≡ true
unfolding octets_of
plain_octets [] os e = absurd (none-some os e)
plain_octets (x ∷ w) os e = both _ _ (nonempty x w) (plain_pairs (x ∷ w) os e)
  where
    nonempty : (x : ℕ) (w : List ℕ) → not (eqb (length (x ∷ w)) 0) ≡ true
    nonempty x w = grind (arith, nat_tests)
