-- A mask: a word that says just five octets.
use Rattle.std.proofs.Common.{◌≡◌, ℕ, ◌<◌, List, ◌++◌, Bool, true, false, cond, length, drop, replicate, refl, sym, ap, arith, append-nil, Option, Some, None}
use borrow.Author.Tests.{leb-false, eqb-true, ne_eqb}
use lib.Dec.{leb, eqb}
use Rattle.std.specs.Bool.{then_some}
use Rattle.std.specs.Option.{option_map}
use Rattle.std.proofs.lemmas.Option.{same_Some, none-some}
use Rattle.console_numbers.specs.Numbers.{◌>>=◌, octets_of, octets_up_to, at_front, mask_of}

-- five octets at most, and just five
abbrev up_to_five : Option (List ℕ) → Option (List ℕ)
up_to_five o = o >>= λ (octets : List ℕ). cond (leb (length octets) 5) (Some octets) None

abbrev just_five : Option (List ℕ) → Option (List ℕ)
just_five o = o >>= λ (octets : List ℕ). cond (eqb (length octets) 5) (Some octets) None

-- what is left of five octets behind five
none_left : (octets : List ℕ) (count : ℕ) → count ≡ 5 → octets ++ drop count (replicate 5 0) ≡ octets
none_left octets count e = rw e (append-nil octets)

long : (octets : List ℕ) → 5 < length octets → just_five (Some octets) ≡ None
long octets l = rw (ne_eqb (length octets) 5 (λ e. absurd (omega (arith, e, l)))) refl

pub five : (word : List ℕ) (count : ℕ) → Some count ≡ option_map (length {A = ℕ}) (octets_up_to 5 word) → then_some (eqb count 5) (at_front (octets_up_to 5 word) (replicate 5 0)) ≡ mask_of word
unfolding octets_up_to mask_of
five word count e = go (octets_of word) e
  where
    fit : (octets : List ℕ) (b : Bool) → leb (length octets) 5 ≡ b → Some count ≡ option_map (length {A = ℕ}) (cond b (Some octets) None) → then_some (eqb count 5) (at_front (cond b (Some octets) None) (replicate 5 0)) ≡ just_five (Some octets)
    fit octets true l e = all octets (same_Some _ _ e) (eqb count 5) refl
      where
        all : (octets : List ℕ) → count ≡ length octets → (b : Bool) → eqb count 5 ≡ b → then_some b (octets ++ drop (length octets) (replicate 5 0)) ≡ just_five (Some octets)
        all octets n true t = rw (sym n, t) (ap Some (none_left octets count (eqb-true count 5 t)))
        all octets n false t = rw (sym n, t) refl
    fit octets false l e = absurd (none-some count (sym e))

    go : (o : Option (List ℕ)) → Some count ≡ option_map (length {A = ℕ}) (up_to_five o) → then_some (eqb count 5) (at_front (up_to_five o) (replicate 5 0)) ≡ just_five o
    go None e = absurd (none-some count (sym e))
    go (Some octets) e = fit octets (leb (length octets) 5) refl e

pub none : (word : List ℕ) → None ≡ option_map (length {A = ℕ}) (octets_up_to 5 word) → None ≡ mask_of word
unfolding octets_up_to mask_of
none word e = go (octets_of word) e
  where
    fit : (octets : List ℕ) (b : Bool) → leb (length octets) 5 ≡ b → None ≡ option_map (length {A = ℕ}) (cond b (Some octets) None) → None ≡ just_five (Some octets)
    fit octets true l e = absurd (none-some _ e)
    fit octets false l e = sym (long octets (leb-false (length octets) 5 l))

    go : (o : Option (List ℕ)) → None ≡ option_map (length {A = ℕ}) (up_to_five o) → None ≡ just_five o
    go None e = refl
    go (Some octets) e = fit octets (leb (length octets) 5) refl e
