-- A pcap file: a header of 24 octets, then each packet, a header of 16 octets and what was caught. A number of 32 bits stands as its four
-- octets, the lowest first; a larger one loses what is above its 32 bits.
use Rattle.std.specs.Prelude.{ℕ, ◌*◌, ◌/◌, ◌%◌, List, [], ◌∷◌, ◌++◌, length}
use Rattle.std.specs.Int.{to_le_bytes, w16, w32}
use Rattle.bits.specs.Format.{basic, most_longest}

-- that times are in microseconds; version 2.4; nothing to add to the times, nothing of their accuracy; most octets of a packet, which are
-- those of the longest unit; link type 140, which is MTP2
abbrev pub file_header : List ℕ
file_header =
    to_le_bytes w32 0xA1B2C3D4
    ++ (to_le_bytes w16 2
    ++ (to_le_bytes w16 4 ++ (to_le_bytes w32 0 ++ (to_le_bytes w32 0 ++ (to_le_bytes w32 (most_longest basic) ++ to_le_bytes w32 140)))))

-- "time stamps from the octet count at 64 kbit/s": 8,000 line octets a second, 125 microseconds each. The time in whole seconds and the
-- microseconds over them; the octets kept, and the octets that came, which are as many
abbrev pub packet_header : ℕ → ℕ → List ℕ
packet_header line_octets count =
    to_le_bytes w32 (line_octets / 8000)
    ++ (to_le_bytes w32 (line_octets % 8000 * 125) ++ (to_le_bytes w32 count ++ to_le_bytes w32 count))

-- a unit that was closed by the last of so many line octets; nothing where there is no unit
abbrev pub packet_of : ℕ → List ℕ → List ℕ
packet_of line_octets [] = []
packet_of line_octets (x ∷ xs) = packet_header line_octets (length (x ∷ xs)) ++ (x ∷ xs)
