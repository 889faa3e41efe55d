-- The digits of octets, one octet after the other.
use Prim.Native.Nat.{ℕ, ◌+◌, ◌<◌, ◌≤◌}
use mathlib.Core.Path.{◌≡◌, refl, sym, ap, ◌∙◌}
use mathlib.Core.List.{List, [], ◌∷◌, ◌++◌}
use lib.Seq.{take-suc, take_all}
use native.Mathlib.Numerals.{add-one}
use native.Mathlib.Omega.{arith}
use Rattle.std.specs.List.{flat_map}
use Rattle.std.proofs.lemmas.Grind.{flat_map-append}
use lib.ListN.{length, take, get_or}
use Rattle.std.specs.Prelude.{codes}
use Rattle.text.specs.Hex.{two_digits, hex_text}

pub none : (octets : List ℕ) → length octets ≡ 0 → hex_text octets ≡ codes "-"
unfolding hex_text
none [] _ = refl
none (octet ∷ octets) e = absurd (omega (arith, e))

some : (octets : List ℕ) → 0 < length octets → hex_text octets ≡ flat_map two_digits octets
unfolding hex_text
some [] e = absurd (omega (arith, e))
some (octet ∷ octets) _ = refl

pub all : (octets : List ℕ) (n : ℕ) → 0 < length octets → length octets ≤ n → flat_map two_digits (take n octets) ≡ hex_text octets
all octets n any whole = ap (flat_map two_digits) (take_all n octets whole) ∙ sym (some octets any)

pub more : (octets : List ℕ) (i : ℕ) → i < length octets
    → flat_map two_digits (take i octets) ++ two_digits (get_or octets i 0) ≡ flat_map two_digits (take (i + 1) octets)
more octets i below =
    sym
    (ap (λ (k : ℕ). flat_map two_digits (take k octets)) (add-one i)
    ∙ ap (flat_map two_digits) (take-suc octets i 0 below)
    ∙ flat_map-append two_digits (take i octets) (get_or octets i 0 ∷ []))
