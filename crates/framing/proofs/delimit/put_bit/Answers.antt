-- `framing::delimit::put_bit` meets its contract: a one is set at its place, a zero stands there already.
use Rattle.bits.proofs.Gathering.{put_one, put-zero}
use Rattle.framing.proofs.delimit.put_bit.Goals as goal

pub returns-then-bit : goal.returns-then-bit
returns-then-bit c =
    let s = c in
    rw (c.if-bit.true, c.from.ensures) (put_one 279 s.args.bits s.args.area.now s.requires.bits_bound s.requires.area_value)

pub returns-else-bit : goal.returns-else-bit
returns-else-bit c =
    let s = c in
    rw c.if-bit.false (put-zero 279 s.args.bits s.args.area.now s.requires.bits_bound s.requires.area_value)
