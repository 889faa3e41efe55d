-- `records::record` meets its contract: the unit's five octets are read one by one, and a switch as an octet is worth 1 or 0.
use Rattle.std.proofs.Common.{◌≡◌, length, arith, refl, Bool, true, false}
use mir.Val.{bool_byte}
use Rattle.bits.specs.Octets.{worth}
use Rattle.records.specs.Record.{record_of}
use Rattle.filter.proofs.Likeness.{of-five}
use Rattle.records.proofs.record.Goals as goal

byte-worth : (b : Bool) → bool_byte b ≡ worth b
byte-worth true = refl
byte-worth false = refl

pub returns : goal.returns
unfolding record_of
returns c =
    let f : length c.args.h.first ≡ 5 = omega arith in
    rw (c.low_high.ensures, c.low_high-2.ensures, c.low_high-3.ensures, c.from.ensures, c.from-2.ensures, c.from-3.ensures, of-five c.args.h.first f) (rw (byte-worth c.args.h.lost, byte-worth c.args.raised))
