-- `fcs::check_octets` meets its contract.
use mathlib.Core.Path.{◌≡◌, refl}
use Prim.Native.Nat.{◌/◌, ◌%◌, ◌^◌, ◌<◌}
use native.Mathlib.Omega.{arith}
use lib.Bits.{bit_xor, xor_lt}
use Rattle.fcs.specs.Check.{check_octets}
use Rattle.fcs.proofs.check_octets.Goals as goal

pub returns : goal.returns
unfolding check_octets
returns c =
    let x = bit_xor c.check_content.result 65535 in
    let n : x < 2 ^ 16 = xor_lt 16 c.check_content.result 65535 c.check_content.type_inv (omega arith) in
    let high : x / 256 % 256 ≡ x / 256 = omega arith in
    rw (c.to_le_bytes.ensures, high, c.check_content.ensures) refl
