-- What a line octet is to the rest of the board: what its bits find, in order, and then its end.
use Rattle.std.specs.Prelude.{ℕ, List, [], ◌∷◌, ◌++◌, map}
use Rattle.bits.specs.Octets.{bits_of}
use Rattle.bits.specs.Machine.{run, outs}
use Rattle.framing.specs.Delimitation.{Receiver, Finding, receiver_after, findings}

pub data Indication : Type 0 where
  found : Finding → Indication
  octet_end : Indication

-- one octet: the receiver after its eight bits, and its indications
abbrev pub octet_receiver : ℕ → Receiver → ℕ → Receiver
octet_receiver M s octet = receiver_after M s (bits_of 8 octet)

abbrev pub octet_indications : ℕ → Receiver → ℕ → List Indication
octet_indications M s octet = map found (findings M s (bits_of 8 octet)) ++ (octet_end ∷ [])

-- a run of line octets
unfoldable pub line_receiver : ℕ → Receiver → List ℕ → Receiver
line_receiver M = run (octet_receiver M)

unfoldable pub line_indications : ℕ → Receiver → List ℕ → List Indication
line_indications M = outs (octet_receiver M) (octet_indications M)
