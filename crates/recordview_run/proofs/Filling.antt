-- A buffer filled from its start, read by read.
use Rattle.std.proofs.Common.{ℕ, ◌+◌, ◌-◌, ◌≤◌, List, length, take, subst}
use Rattle.std.specs.Prelude.{Option}
use Rattle.std.specs.Io.KnownBytes.{Consumes}
use Rattle.std.proofs.KnownBytes.{Consumes-trans}
use borrow.Rule.Slice.PartMut.{put_mid}
use Rattle.bits.proofs.Parts.{filled}

-- one read more
pub read-more : (a b c : Option (List ℕ)) (area part : List ℕ) (at n : ℕ) → at ≤ length area → n ≤ length part
    → Consumes a b (take at area) → Consumes b c (take n part) → Consumes a c (take (at + n) (put_mid at (length area - at) area part))
read-more a b c area part at n within fits before now = subst (Consumes a c) (filled area part at n within fits) (Consumes-trans a b c _ _ before now)
