-- Tables of faults.
use Rattle.std.specs.Prelude.{ℕ, Bool, true, not, ◌&&◌, List, [], ◌∷◌, ltb}
use Rattle.link.specs.Refusals.{Fault}

-- none of these faults is found
unfoldable pub none_found : List Fault → Bool
none_found [] = true
none_found (f ∷ fs) = not f.found && none_found fs

-- "in rising number", from above n
unfoldable pub rising : ℕ → List Fault → Bool
rising n [] = true
rising n (f ∷ fs) = ltb n f.number && rising f.number fs
