-- Numbers and area on one side, the receiver on the other: each gives the other back.
use Prim.Native.Nat.{ℕ, ◌+◌, ◌*◌, ◌≤◌}
use mathlib.Core.Path.{◌≡◌, sym, ap}
use mathlib.Core.Bool.{Bool}
use mathlib.Core.List.{List}
use native.Mathlib.Omega.{arith}
use lib.ListN.{length, take}
use Rattle.bits.specs.Octets.{line_bits, packed}
use Rattle.bits.proofs.Packing.{unpack}
use Rattle.framing.specs.declared.Line.{Line}
use Rattle.framing.specs.Delimitation.{Receiver}
use Rattle.framing.specs.Representation.{line_of, encode_area}
use Rattle.framing.specs.Promises.{EncodesBack, DecodesBack}
use Rattle.framing.proofs.Ways.{held}

pub encodes-back : EncodesBack
encodes-back M l area m w = (ap {B = Line} (λ (n : ℕ). line_of l.run l.hunting n) (sym (held M l area m w)), w.zeroed)

gathered-back : (M : ℕ) (s : Receiver) → M ≤ 278 → length s.gathered ≤ 8 * M + 7 → take (length s.gathered) (line_bits (encode_area s)) ≡ s.gathered
gathered-back M s m g = unpack 279 s.gathered (omega arith)

pub decodes-back : DecodesBack
decodes-back M s m r g h =
    let e = gathered-back M s m g in (
      record { run≤7 = r; room = g; idle = h; fits = g; zeroed = ap (packed 279) (sym e) },
      ap {B = Receiver} (λ (x : List Bool). record { run = s.run; hunting = s.hunting; gathered = x }) e,
    )
