-- Words that say so many octets at most.
use Rattle.std.proofs.Common.{◌≡◌, ℕ, List, Bool, true, false, cond, length, refl, sym, ap, ◌∙◌, Option, Some, None}
use lib.Dec.{leb}
use Rattle.std.specs.Bool.{then_some}
use Rattle.std.specs.Option.{option_map}
use Rattle.std.proofs.lemmas.Option.{same_Some, none-some}
use Rattle.console_numbers.specs.Numbers.{◌>>=◌, octets_of, octets_up_to}

module _ {R : Type 0} (request : R) (most : ℕ) where
  pub counted : (hex : List ℕ) (count : ℕ) → Some count ≡ option_map (length {A = ℕ}) (octets_of hex) → then_some (leb count most) request ≡ option_map (λ (os : List ℕ). request) (octets_up_to most hex)
  unfolding octets_up_to
  counted hex count e = go (octets_of hex) e
    where
      fit : (octets : List ℕ) (b : Bool) → leb (length octets) most ≡ b → then_some (leb (length octets) most) request ≡ option_map (λ (os : List ℕ). request) (cond (leb (length octets) most) (Some octets) None)
      fit octets true h = rw h refl
      fit octets false h = rw h refl

      go : (o : Option (List ℕ)) → Some count ≡ option_map (length {A = ℕ}) o → then_some (leb count most) request ≡ option_map (λ (os : List ℕ). request) (o >>= λ (octets : List ℕ). cond (leb (length octets) most) (Some octets) None)
      go None e = absurd (none-some count (sym e))
      go (Some octets) e = ap (λ (n : ℕ). then_some (leb n most) request) (same_Some _ _ e) ∙ fit octets (leb (length octets) most) refl

  pub none_said : (hex : List ℕ) → None ≡ option_map (length {A = ℕ}) (octets_of hex) → None ≡ option_map (λ (os : List ℕ). request) (octets_up_to most hex)
  unfolding octets_up_to
  none_said hex e = go (octets_of hex) e
    where
      go : (o : Option (List ℕ)) → None ≡ option_map (length {A = ℕ}) o → None ≡ option_map (λ (os : List ℕ). request) (o >>= λ (octets : List ℕ). cond (leb (length octets) most) (Some octets) None)
      go None e = refl
      go (Some octets) e = absurd (none-some _ e)
