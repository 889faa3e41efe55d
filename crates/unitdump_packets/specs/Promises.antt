-- What is promised of the octets. The proofs are in proofs/Cases.antt and proofs/ReadBack.antt.
use Rattle.std.specs.Prelude.{ℕ, ◌+◌, ◌*◌, ◌^◌, ◌<◌, List, [], ◌∷◌, ◌++◌, length, take, drop, ◌≡◌}
use Rattle.std.specs.Int.{from_le_bytes, w32}
use Rattle.unitdump_packets.specs.Packets.{file_header, packet_of}

-- the first octets of each such file, in hexadecimal: D4 C3 B2 A1, 02 00, 04 00, eight of 00, 16 01 00 00, 8C 00 00 00
abbrev pub FileHeader : Type 0
FileHeader =
    file_header
    ≡ 212 ∷ 195 ∷ 178 ∷ 161 ∷ 2 ∷ 0 ∷ 4 ∷ 0 ∷ 0 ∷ 0 ∷ 0 ∷ 0 ∷ 0 ∷ 0 ∷ 0 ∷ 0 ∷ 22 ∷ 1 ∷ 0 ∷ 0 ∷ 140 ∷ 0 ∷ 0 ∷ 0 ∷ []

-- a unit of three octets closed by line octet 16,007: 2 seconds and 875 microseconds (6B 03) after the line began
abbrev pub OnePacket : Type 0
OnePacket =
    packet_of 16007 (1 ∷ 2 ∷ 3 ∷ [])
    ≡ 2 ∷ 0 ∷ 0 ∷ 0 ∷ 107 ∷ 3 ∷ 0 ∷ 0 ∷ 3 ∷ 0 ∷ 0 ∷ 0 ∷ 3 ∷ 0 ∷ 0 ∷ 0 ∷ 1 ∷ 2 ∷ 3 ∷ []

-- number i of a packet, as a reader of the file takes it
abbrev pub number_at : ℕ → List ℕ → ℕ
number_at i packet = from_le_bytes w32 (take 4 (drop (4 * i) packet))

-- What a reader finds where a packet begins: the time, 125 microseconds for each line octet; how many octets were kept and how many came;
-- the unit; and behind it what comes next.
pub record Reads (packet : List ℕ) (line_octets : ℕ) (unit rest : List ℕ) : Type 0 where
  pub time : 1000000 * number_at 0 packet + number_at 1 packet ≡ 125 * line_octets
  pub kept : number_at 2 packet ≡ length unit
  pub came : number_at 3 packet ≡ length unit
  pub octets : take (length unit) (drop 16 packet) ≡ unit
  pub behind : drop (length unit) (drop 16 packet) ≡ rest

-- Each packet is read back, for the first 2 ^ 32 seconds of a line, which are 136 years.
abbrev pub ReadBack : Type 0
ReadBack =
    (line_octets x : ℕ) (xs rest : List ℕ) → line_octets < 8000 * 2 ^ 32 → length (x ∷ xs) < 2 ^ 32
    → Reads (packet_of line_octets (x ∷ xs) ++ rest) line_octets (x ∷ xs) rest
