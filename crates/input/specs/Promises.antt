-- What is promised of receive. The proofs are in proofs/Cutting.antt.
use Rattle.std.specs.Prelude.{ℕ, ◌*◌, ◌≡◌, true, List, [], take}
use Rattle.board.specs.Limits.{record_octets}
use Rattle.board.specs.declared.Settings.{Settings}
use Rattle.board.specs.declared.Link.{Link}
use Rattle.units.specs.Promises.{Sums}
use Rattle.link.specs.Refusals.{open_number}
use Rattle.link.specs.Tables.{rising}
use Rattle.input.specs.Refusals.{receive_faults, receive_number}
use Rattle.link.specs.Calls.{open_answer, command_answer}
use Rattle.input.specs.Receive.{ReceiveOutcome, receive_answer}

-- The faults are asked in rising number, and a refused call changes nothing.
abbrev pub ReceiveRises : Type 0
ReceiveRises = (l : Link) (octets pool descriptors records : List ℕ) → rising 0 (receive_faults l octets pool descriptors records) ≡ true

abbrev pub RefusedReceive : Type 0
RefusedReceive =
    (l : Link) (octets pool descriptors records : List ℕ) → (receive_number l octets pool descriptors records ≡ 0 → ⊥)
    → receive_answer l octets pool descriptors records
    ≡ record {
      number = receive_number l octets pool descriptors records;
      link = l;
      count = 0;
      pool = pool;
      descriptors = descriptors;
      records = records;
    }

-- the records that a call wrote
abbrev pub written : ReceiveOutcome → List ℕ
written o = take (record_octets * o.count) o.records

-- "The good count is their sum modulo 65,536": so at opening, and each call keeps it.
abbrev pub SumAtOpen : Type 0
SumAtOpen = (l : Link) (s : Settings) (pool descriptors : List ℕ) → open_number l s pool descriptors ≡ 0 → Sums (open_answer l s pool descriptors).link.units.counts

abbrev pub SumKeptByReceive : Type 0
SumKeptByReceive = (l : Link) (octets pool descriptors records : List ℕ) → Sums l.units.counts → Sums (receive_answer l octets pool descriptors records).link.units.counts

abbrev pub SumKeptByCommand : Type 0
SumKeptByCommand = (l : Link) (command : ℕ) → Sums l.units.counts → Sums (command_answer l command).link.units.counts

-- P1: no line octets, no record.
abbrev pub NoOctets : Type 0
NoOctets =
    (l : Link) (pool descriptors records : List ℕ)
    → ((receive_answer l [] pool descriptors records).count ≡ 0) × ((receive_answer l [] pool descriptors records).records ≡ records)
