-- The octets, computed.
use mathlib.Core.Path.{refl}
use Rattle.unitdump_packets.specs.Promises.{FileHeader, OnePacket}

pub file-header : FileHeader
file-header = refl

pub one-packet : OnePacket
one-packet = refl
