-- The check octets of beginnings.
use Rattle.std.specs.Prelude.{ℕ, zero, suc, List, [], ◌++◌, take}
use Rattle.fcs.specs.Check.{check_octets}

-- those of the beginnings of one octet, of two, and so on up to n
unfoldable pub checks_of : List ℕ → ℕ → List ℕ
checks_of octets zero = []
checks_of octets (suc n) = checks_of octets n ++ check_octets (take (suc n) octets)
