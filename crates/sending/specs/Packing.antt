-- "Whole octets go out and their number is returned; the rest of the area is unchanged; up to seven bits wait in the link."
use Rattle.std.specs.Prelude.{ℕ, Bool, List, ◌++◌}
use Rattle.bits.specs.Octets.{bits_of, whole_octets, bits_after}
use Rattle.sending.specs.declared.Tx.{Tx}

-- the bits that wait, the first one lowest in the waiting octet
abbrev pub waiting : Tx → List Bool
waiting t = bits_of t.count t.wait

-- bits are put behind those that wait: the octets that go out, and the bits that wait then
unfoldable pub octets_out : Tx → List Bool → List ℕ
octets_out t bs = whole_octets (waiting t ++ bs)

unfoldable pub still_waiting : Tx → List Bool → List Bool
still_waiting t bs = bits_after (waiting t ++ bs)
