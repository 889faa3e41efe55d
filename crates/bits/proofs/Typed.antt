-- What the type of an array of octets says of its list.
use Prim.Native.Nat.{ℕ}
use mathlib.Core.Path.{◌≡◌}
use mathlib.Core.List.{List, [], ◌∷◌}
use lib.ListN.{length}
use mir.Val.{Val}
use denote.Array.{each, in_array}
use denote.Shadow.{shadow}
use denote.Struct.Field.{u8-field}
use Rattle.bits.specs.Octets.{Octets, none, more}

octets-of : (xs : List ℕ) (us : List Val) → shadow (each ℕ u8-field.row.own_val xs us) → Octets xs
octets-of [] us s = none
octets-of (x ∷ xs) [] s = absurd s
octets-of (x ∷ xs) (u ∷ us) s = more s.0.1 (octets-of xs us s.1)

pub array-of-octets : (n : ℕ) (xs : List ℕ) (vs : List Val) → shadow (in_array ℕ u8-field.row.own_val n xs vs) → (length xs ≡ n) × Octets xs
array-of-octets n xs vs s = (s.1.0.1, octets-of xs s.0 s.1.1)
