-- `fcs::half_octets::check_half` meets its contract: the step from the constants is four steps of the bit rule.
use mathlib.Core.Path.{ap, ◌∙◌}
use mathlib.Core.List.{List}
use Prim.Native.Nat.{ℕ, ◌/◌, ◌%◌}
use lib.Bits.{bit_xor}
use lib.ListN.{get_or}
use Rattle.fcs.proofs.HalfOctets.{half-octet-step}
use Rattle.fcs.proofs.half_octets.check_half.Goals as goal

pub returns : goal.returns
returns c =
    let r = c.args.register in
    let h = c.args.half in
    rw (c.from-2.ensures, c.from.ensures) (ap (λ (t : List ℕ). bit_xor (r / 16) (get_or t (bit_xor r h % 16) 0)) c.sixteen_constants.ensures ∙ half-octet-step r h)
