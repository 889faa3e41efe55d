-- Pairs of hex digits, read one behind the other.
use Rattle.std.proofs.Common.{◌≡◌, ℕ, ◌+◌, ◌*◌, ◌<◌, ◌≤◌, suc, Bool, eqb, List, [], ◌∷◌, length, refl, sym, ap, ◌∙◌, arith, Option, Some, None}
use borrow.Author.Tests.{ne_eqb}
use Rattle.std.specs.Bool.{then_some}
use Rattle.std.specs.Option.{option_map}
use Rattle.std.proofs.lemmas.Option.{none-some, some_pair_parts}
use Rattle.console_numbers.specs.Numbers.{◌>>=◌, digit_of, next_of, pairs_of, octets_of}

-- what two digits, where they are some, and the octets behind them say
abbrev first_of : List ℕ → Option ℕ → Option ℕ → Option (ℕ × List ℕ)
first_of xs high low = do
  h ← high
  l ← low
  Some (16 * h + l, xs)

abbrev both_of : Option (List ℕ) → Option ℕ → Option ℕ → Option (List ℕ)
both_of octets high low = do
  h ← high
  l ← low
  os ← octets
  Some ((16 * h + l) ∷ os)

pub pairs-more : (left : List ℕ) (octet : ℕ) (rest : List ℕ) → next_of left ≡ Some (octet, rest) → pairs_of left ≡ option_map (λ (os : List ℕ). octet ∷ os) (pairs_of rest)
unfolding pairs_of
pairs-more [] octet rest e = absurd (none-some _ e)
pairs-more (x ∷ []) octet rest e = absurd (none-some _ e)
pairs-more (x ∷ y ∷ xs) octet rest e = go (digit_of x) (digit_of y) e
  where
    behind : (n : ℕ) (o : Option (List ℕ)) → (o >>= λ os. Some (n ∷ os)) ≡ option_map (λ (os : List ℕ). n ∷ os) o
    behind n None = refl
    behind n (Some os) = refl

    go : (high low : Option ℕ) → first_of xs high low ≡ Some (octet, rest) → both_of (pairs_of xs) high low ≡ option_map (λ (os : List ℕ). octet ∷ os) (pairs_of rest)
    go None low e = absurd (none-some _ e)
    go (Some h) None e = absurd (none-some _ e)
    go (Some h) (Some l) e =
        let parts = some_pair_parts (16 * h + l) octet xs rest e in
        behind (16 * h + l) (pairs_of xs) ∙ ap (λ (n : ℕ). option_map (λ (os : List ℕ). n ∷ os) (pairs_of xs)) parts.0 ∙ ap (λ (w : List ℕ). option_map (λ (os : List ℕ). octet ∷ os) (pairs_of w)) parts.1

pub next-shorter : (left : List ℕ) (octet : ℕ) (rest : List ℕ) → next_of left ≡ Some (octet, rest) → length left ≡ length rest + 2
next-shorter [] octet rest e = absurd (none-some _ e)
next-shorter (x ∷ []) octet rest e = absurd (none-some _ e)
next-shorter (x ∷ y ∷ xs) octet rest e = go (digit_of x) (digit_of y) e
  where
    go : (high low : Option ℕ) → first_of xs high low ≡ Some (octet, rest) → suc (suc (length xs)) ≡ length rest + 2
    go None low e = absurd (none-some _ e)
    go (Some h) None e = absurd (none-some _ e)
    go (Some h) (Some l) e = omega (arith, ap length (some_pair_parts (16 * h + l) octet xs rest e).1)

pub no_pair : (x : ℕ) (xs : List ℕ) → next_of (x ∷ xs) ≡ None → pairs_of (x ∷ xs) ≡ None
unfolding pairs_of
no_pair x [] e = refl
no_pair x (y ∷ xs) e = go (digit_of x) (digit_of y) e
  where
    go : (high low : Option ℕ) → first_of xs high low ≡ None → both_of (pairs_of xs) high low ≡ None
    go None low e = refl
    go (Some h) None e = refl
    go (Some h) (Some l) e = absurd (none-some _ (sym e))

-- so many octets are read, and this is left of the word
pub record Counted (word : List ℕ) (count : ℕ) (left : List ℕ) : Type 0 where
  pub digits : 2 * count + length left ≡ length word
  pub octets : option_map (λ (os : List ℕ). count + length os) (pairs_of left) ≡ option_map length (pairs_of word)

pub start : (word : List ℕ) → Counted word 0 word
start word = record { digits = omega arith; octets = go (pairs_of word) }
  where
    go : (o : Option (List ℕ)) → option_map (λ (os : List ℕ). 0 + length os) o ≡ option_map length o
    go None = refl
    go (Some os) = ap Some (omega arith)

module _ (word left : List ℕ) (count : ℕ) (h : Counted word count left) where
  pub next : (octet : ℕ) (rest : List ℕ) → next_of left ≡ Some (octet, rest) → Counted word (count + 1) rest
  next octet rest e =
      record {
        digits = omega (arith, next-shorter left octet rest e, h.digits);
        octets = sym (go (pairs_of rest)) ∙ ap (option_map (λ (os : List ℕ). count + length os)) (sym (pairs-more left octet rest e)) ∙ h.octets;
      }
    where
      go : (o : Option (List ℕ)) → option_map (λ (os : List ℕ). count + length os) (option_map (λ (os : List ℕ). octet ∷ os) o) ≡ option_map (λ (os : List ℕ). count + 1 + length os) o
      go None = refl
      go (Some os) = ap Some (omega arith)

  -- no octet was read
  pub none_read : next_of left ≡ None → count ≤ 0 → None ≡ option_map (length {A = ℕ}) (octets_of word)
  unfolding octets_of pairs_of
  none_read e z = go word left e h
    where
      go : (w l : List ℕ) → next_of l ≡ None → Counted w count l → None ≡ option_map (length {A = ℕ}) (octets_of w)
      go [] l e h = refl
      go (x ∷ w) [] e h = absurd (omega (arith, h.digits, z))
      go (x ∷ w) (y ∷ l) e h = sym (ap (option_map (λ (os : List ℕ). count + length os)) (no_pair y l e)) ∙ h.octets

  -- octets were read: all if nothing is left
  pub some_read : next_of left ≡ None → 0 < count → then_some (eqb (length left) 0) count ≡ option_map (length {A = ℕ}) (octets_of word)
  unfolding octets_of pairs_of
  some_read e p = go word left e h
    where
      go : (w l : List ℕ) → next_of l ≡ None → Counted w count l → then_some (eqb (length l) 0) count ≡ option_map (length {A = ℕ}) (octets_of w)
      go [] l e h = absurd (omega (arith, h.digits, p))
      go (x ∷ w) [] e h = ap Some (omega arith) ∙ h.octets
      go (x ∷ w) (y ∷ l) e h = ap (λ (b : Bool). then_some b count) (ne_eqb (length (y ∷ l)) 0 (λ z. absurd (omega (arith, z)))) ∙ sym (ap (option_map (λ (os : List ℕ). count + length os)) (no_pair y l e)) ∙ h.octets
