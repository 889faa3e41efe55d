-- `framing::area::clear` meets its contract: zeros up to the last octet that holds a bit, and zeros stood past it.
use Prim.Native.Nat.{ℕ}
use mathlib.Core.Path.{◌≡◌, ap, ◌∙◌}
use mathlib.Core.List.{List, ◌++◌}
use native.Mathlib.Omega.{arith}
use lib.ListN.{length, take, drop, replicate}
use lib.Seq.{length-take-le}
use Rattle.bits.specs.Octets.{line_bits}
use Rattle.bits.proofs.Packing.{zero-front, held-length}
use Rattle.framing.proofs.area.clear.Goals as goal

pub returns : goal.returns
returns c =
    let area = c.args.area.now in
    let end = c.div_ceil-end.result in
    let g = take c.args.bits (line_bits area) in
    let n : length g ≡ c.args.bits = held-length 279 c.args.bits area (omega arith) c.requires.area_value in
    let k : length (take end area) ≡ end = length-take-le end area (omega (arith, c.div_ceil-end.ensures, c.from.ensures)) in
    let z : c.fill.new.self ≡ replicate end 0 = c.fill.ensures.after (λ y e. e) ∙ ap (λ (i : ℕ). replicate i 0) k in
    ap (λ (a : List ℕ). a ++ drop end area) z
    ∙ ap (λ (a : List ℕ). replicate end 0 ++ drop end a) c.requires.area_value
    ∙ zero-front 279 end g (omega (arith, c.div_ceil-end.ensures, c.from.ensures)) (omega (arith, c.div_ceil-end.ensures, c.from.ensures))
