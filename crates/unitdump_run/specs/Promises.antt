-- What is promised of the program. The proof is in proofs/Cases.antt.
use Rattle.std.specs.Prelude.{[], ◌∷◌, ◌++◌, ◌≡◌}
use Rattle.unitdump_packets.specs.Packets.{file_header, packet_header}
use Rattle.unitdump_run.specs.File.{file_of}

-- A fill-in unit between two flags, in hexadecimal 7E 00 00 00 CC C6 7E: one packet, of 5 octets, its check octets among them, when 7 line
-- octets have come.
abbrev pub OneUnit : Type 0
OneUnit =
    file_of (126 ∷ 0 ∷ 0 ∷ 0 ∷ 204 ∷ 198 ∷ 126 ∷ [])
    ≡ file_header ++ (packet_header 7 5 ++ (0 ∷ 0 ∷ 0 ∷ 204 ∷ 198 ∷ []))
