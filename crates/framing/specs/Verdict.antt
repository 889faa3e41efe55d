-- What is to be said of a closed unit, in the scope's order.
use Rattle.std.specs.Prelude.{◌*◌, ◌%◌, Bool, cond, List, eqb, ltb, length}
use Rattle.bits.specs.Format.{Format, fill_in_octets}
use Rattle.fcs.specs.Check.{check_bits, good_residue}
use Rattle.framing.specs.declared.Verdict.{Verdict}
use Rattle.framing.specs.declared.Verdict.TheVariants.{Short, NotWhole, CheckWrong, Good}

-- "A closed unit of 1 to 39 bits is short [..]. Otherwise: not whole octets, then check wrong, then good."
unfoldable pub verdict_of : Format → List Bool → Verdict
verdict_of F u =
    cond (ltb (length u) (fill_in_octets F * 8)) Short
    (cond (eqb (length u % 8) 0) (cond (eqb (check_bits 0xffff u) good_residue) Good CheckWrong) NotWhole)
