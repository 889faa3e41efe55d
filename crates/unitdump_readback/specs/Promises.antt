-- What is promised of a line that send and fill of one booking put out. The proofs are in proofs/Dumped.antt and proofs/File.antt.
use Rattle.std.specs.Prelude.{ℕ, ◌≡◌, false, List, [], ◌∷◌, ◌++◌, map}
use Rattle.bits.specs.Format.{basic, most_longest}
use Rattle.board.specs.declared.Settings.{Settings}
use Rattle.board.specs.declared.Link.{Link}
use Rattle.link.specs.Calls.{open_answer}
use Rattle.transmission.specs.Transmission.{contents}
use Rattle.readback.specs.SlotRing.{unit_octets}
use Rattle.readback.specs.Streams.{AllAllowed, closed_out, just_opened}
use Rattle.readback.specs.Promises.{Booking, Sends, line, waits}
use Rattle.unitdump_packets.specs.Packets.{file_header, packet_of}
use Rattle.unitdump_line.specs.Units.{all_packets}
use Rattle.unitdump_run.specs.File.{file_of}

-- the packets of units, one behind the other, whatever their times
pub data Packets : List (List ℕ) → List ℕ → Type 0 where
  none : Packets [] []
  more : (line_octets : ℕ) (unit : List ℕ) {units : List (List ℕ)} {packets : List ℕ} → Packets units packets
      → Packets (unit ∷ units) (packet_of line_octets unit ++ packets)

-- A fresh booking of sixteen slots with its filter off, that allows the lengths, is given the octets that another booking's sends and fills put
-- out, as many as may be. The packets are those of the units whose closing flag is out, contents and check octets, in order, and no others.
abbrev pub AllDumped : Type 0
AllDumped =
    (b : Booking) (l : Link) (s : Settings) (pool descriptors : List ℕ) (line_octets : ℕ)
    → Sends b → (open_answer l s pool descriptors).number ≡ 0 → s.filter ≡ false → s.k ≡ 16 → AllAllowed s.m (contents b.sendings)
    → Packets (map unit_octets (closed_out (waits b) (contents b.sendings)))
    (all_packets (record { held = just_opened l s pool descriptors; octets = line_octets }) (line b))

-- So the file that unitdump writes of such a line is its header and those packets.
abbrev pub FileDumped : Type 0
FileDumped =
    (b : Booking) → Sends b → AllAllowed (most_longest basic) (contents b.sendings)
    → (packets : List ℕ)
    × (file_of (line b) ≡ file_header ++ packets)
    × Packets (map unit_octets (closed_out (waits b) (contents b.sendings))) packets
