-- The octets that a word says, written to the front of an area one behind the other.
use Rattle.std.proofs.Common.{◌≡◌, ℕ, ◌+◌, ◌<◌, ◌≤◌, List, [], ◌∷◌, ◌++◌, cond, length, take, set, refl, sym, ap, ◌∙◌, arith, append_assoc, append-nil, length-append, Option, Some, None}
use borrow.Author.Tests.{le-leb, lt-leb}
use lib.Dec.{leb}
use Rattle.std.specs.Option.{option_map}
use Rattle.std.proofs.Math.Seq.{take_all, length-take-le}
use Rattle.std.proofs.lemmas.List.{take_more_set}
use Rattle.std.proofs.lemmas.Option.{same_Some, none-some}
use Rattle.console_numbers.specs.Numbers.{◌>>=◌, next_of, pairs_of, octets_of, octets_up_to}
use Rattle.console_numbers.proofs.Pairs.{pairs-more, no_pair}

-- the items at the front are the first octets, and what is left of the word says the others
pub record Written (word left items : List ℕ) (i : ℕ) : Type 0 where
  pub all : octets_of word ≡ option_map (λ (os : List ℕ). take i items ++ os) (pairs_of left)

module _ (word : List ℕ) (count : ℕ) (h : Some count ≡ option_map (length {A = ℕ}) (octets_of word)) where
  pub start : (items : List ℕ) → Written word word items 0
  unfolding octets_of
  start items = record { all = go word h }
    where
      same : (o : Option (List ℕ)) → o ≡ option_map (λ (os : List ℕ). [] ++ os) o
      same None = refl
      same (Some os) = refl

      go : (w : List ℕ) → Some count ≡ option_map (length {A = ℕ}) (octets_of w) → octets_of w ≡ option_map (λ (os : List ℕ). [] ++ os) (pairs_of w)
      go [] e = absurd (none-some count (sym e))
      go (x ∷ w) e = same (pairs_of (x ∷ w))

  pub next : (left items rest : List ℕ) (i octet : ℕ) → i < length items → next_of left ≡ Some (octet, rest) → Written word left items i → Written word rest (set items i octet) (i + 1)
  next left items rest i octet l e w =
      record { all = w.all ∙ ap (option_map (λ (os : List ℕ). take i items ++ os)) (pairs-more left octet rest e) ∙ go (pairs_of rest) }
    where
      go : (o : Option (List ℕ)) → option_map (λ (os : List ℕ). take i items ++ os) (option_map (λ (os : List ℕ). octet ∷ os) o) ≡ option_map (λ (os : List ℕ). take (i + 1) (set items i octet) ++ os) o
      go None = refl
      go (Some os) = ap Some (sym (ap (λ (t : List ℕ). t ++ os) (take_more_set items i octet l) ∙ append_assoc (take i items) (octet ∷ []) os))

  -- so many are said
  said : (octets : List ℕ) → octets_of word ≡ Some octets → count ≡ length octets
  said octets e = same_Some _ _ (h ∙ ap (option_map (length {A = ℕ})) e)

  none_said : octets_of word ≡ None → ⊥
  none_said e = none-some count (sym (h ∙ ap (option_map (length {A = ℕ})) e))

  -- the word says more octets than have been written
  pub goes_on : (left items : List ℕ) (i : ℕ) → i < length items → length items ≤ count → next_of left ≡ None → Written word left items i → ⊥
  unfolding pairs_of
  goes_on [] items i l c e w =
      omega (arith, said _ w.all, length-append (take i items) [], length-take-le i items (omega arith))
  goes_on (x ∷ left) items i l c e w = none_said (w.all ∙ ap (option_map (λ (os : List ℕ). take i items ++ os)) (no_pair x left e))

  pub done : (left items : List ℕ) (i : ℕ) → length items ≤ i → length items ≡ count → Written word left items i → octets_of word ≡ Some items
  done left items i l c w = go (pairs_of left) w.all
    where
      go : (o : Option (List ℕ)) → octets_of word ≡ option_map (λ (os : List ℕ). take i items ++ os) o → octets_of word ≡ Some items
      go None e = absurd (none_said e)
      go (Some []) e = e ∙ ap Some (append-nil (take i items) ∙ take_all i items l)
      go (Some (o ∷ os)) e = absurd (omega (arith, said _ e, length-append (take i items) (o ∷ os), ap length (take_all i items l)))

  -- there is no room for them
  pub no_room : (room : ℕ) → room < count → octets_up_to room word ≡ None
  unfolding octets_up_to
  no_room room l = go (octets_of word) said none_said
    where
      go : (o : Option (List ℕ)) → ((octets : List ℕ) → o ≡ Some octets → count ≡ length octets) → (o ≡ None → ⊥) → (o >>= λ (octets : List ℕ). cond (leb (length octets) room) (Some octets) None) ≡ None
      go None s n = absurd (n refl)
      go (Some octets) s n = rw (lt-leb (length octets) room (omega (arith, s octets refl))) refl

-- there is room for them
pub room_for : (word octets : List ℕ) (room : ℕ) → octets_of word ≡ Some octets → length octets ≤ room → octets_up_to room word ≡ Some octets
unfolding octets_up_to
room_for word octets room e l = rw (e, le-leb (length octets) room l) refl

pub no_octets : (word : List ℕ) (room : ℕ) → None ≡ option_map (length {A = ℕ}) (octets_of word) → octets_up_to room word ≡ None
unfolding octets_up_to
no_octets word room e = go (octets_of word) e
  where
    go : (o : Option (List ℕ)) → None ≡ option_map (length {A = ℕ}) o → (o >>= λ (octets : List ℕ). cond (leb (length octets) room) (Some octets) None) ≡ None
    go None e = refl
    go (Some octets) e = absurd (none-some _ e)
