-- `sending::put_flag` meets its contract: the flag is the piece 7E.
use native.Mathlib.Omega.{arith}
use Rattle.bits.specs.Octets.{bits_of}
use Rattle.sending.proofs.put_flag.Goals as goal

pub put_piece-requires : goal.put_piece-requires
unfolding bits_of
put_piece-requires c = record { room = c.requires; piece_bound = (omega arith, omega arith, omega arith); ones_bound = omega arith }

pub returns : goal.returns
unfolding bits_of
returns c = c.put_piece.ensures
