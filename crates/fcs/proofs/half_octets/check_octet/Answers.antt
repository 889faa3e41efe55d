-- `fcs::half_octets::check_octet` meets its contract: its two halves' steps are the octet's eight.
use mathlib.Core.Path.{ap, ◌∙◌}
use Prim.Native.Nat.{ℕ, ◌/◌}
use Rattle.bits.specs.Octets.{bits_of}
use Rattle.fcs.specs.Check.{check_bits}
use Rattle.fcs.proofs.HalfOctets.{octet-halves}
use Rattle.fcs.proofs.half_octets.check_octet.Goals as goal

pub returns : goal.returns
returns c =
    let a = c.args in
    c.check_half.ensures
    ∙ ap (λ (low : ℕ). check_bits low (bits_of 4 (a.octet / 16))) c.check_half-low.ensures
    ∙ octet-halves a.register a.octet
