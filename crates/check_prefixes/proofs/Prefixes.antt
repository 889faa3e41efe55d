-- The check octets of one beginning more.
use Rattle.std.proofs.Common.{◌≡◌, ℕ, zero, suc, ◌-◌, ◌<◌, List, [], ◌++◌, take, refl, sym, ap, ◌∙◌, subst, arith}
use Rattle.std.specs.Prelude.{Option}
use Rattle.std.specs.Io.KnownBytes.{Appends}
use Rattle.std.proofs.KnownBytes.{Appends-nil, Appends-trans}
use Rattle.fcs.specs.Check.{check_octets}
use Rattle.check_prefixes.specs.Checks.{checks_of}

no-checks : (octets : List ℕ) → checks_of octets 0 ≡ []
unfolding checks_of
no-checks octets = refl

next-check : (octets : List ℕ) (n : ℕ) → checks_of octets (suc n) ≡ checks_of octets n ++ check_octets (take (suc n) octets)
unfolding checks_of
next-check octets n = refl

pub none-written : (octets : List ℕ) (a : Option (List ℕ)) → Appends a a (checks_of octets 0)
none-written octets a = subst (Appends a a) (sym (no-checks octets)) (Appends-nil a)

-- the check of n octets behind those of fewer
pub check-written : (octets check : List ℕ) (n k : ℕ) (a b c : Option (List ℕ)) → 0 < n → k ≡ n → check ≡ check_octets (take n octets)
    → Appends a b (checks_of octets (n - 1)) → Appends b c check → Appends a c (checks_of octets k)
check-written octets check zero k a b c some _ _ _ _ = absurd (omega arith)
check-written octets check (suc n) k a b c _ all e before now =
    let fewer : suc n - 1 ≡ n = omega arith in
    subst (Appends a c)
    (ap (λ (xs : List ℕ). checks_of octets (suc n - 1) ++ xs) e
    ∙ ap (λ (i : ℕ). checks_of octets i ++ check_octets (take (suc n) octets)) fewer
    ∙ sym (next-check octets n) ∙ ap (checks_of octets) (sym all))
    (Appends-trans a b c _ _ before now)
