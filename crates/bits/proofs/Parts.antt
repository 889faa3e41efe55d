-- An area filled from its start, part by part.
use Prim.Native.Nat.{ℕ, ◌+◌, ◌-◌, ◌≤◌}
use mathlib.Core.Path.{◌≡◌, sym, ap, ◌∙◌}
use mathlib.Core.List.{List, ◌++◌}
use lib.ListN.{length, take}
use lib.Seq.{length-take-le, take-append-add, take-append-le}
use borrow.Rule.Slice.PartMut.{put_mid, post_of}

-- what the part from `at` on begins with stands behind what was there before
pub filled : (area part : List ℕ) (at n : ℕ) → at ≤ length area → n ≤ length part
    → take at area ++ take n part ≡ take (at + n) (put_mid at (length area - at) area part)
filled area part at n within fits =
    let front : length (take at area) ≡ at = length-take-le at area within in
    let after = post_of at (length area - at) area in
    sym
    (ap (λ (k : ℕ). take (k + n) (take at area ++ (part ++ after))) (sym front)
    ∙ take-append-add (take at area) (part ++ after) n
    ∙ ap (λ (xs : List ℕ). take at area ++ xs) (take-append-le n part after fits))
