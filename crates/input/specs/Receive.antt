-- Receive: line octets in; the link, the lent memory and the records after them.
use Rattle.std.specs.Prelude.{cond, ℕ, List, eqb, length, Result}
use Rattle.std.proofs.lemmas.List.Edits.{sets}
use Rattle.framing.specs.Representation.{decode, encode, encode_area}
use Rattle.board.specs.declared.Link.{Link}
use Rattle.board.specs.With.{with_reception}
use Rattle.units.specs.Units.{unit_memory}
use Rattle.reception.specs.Line.{Board, board_after, line_happenings, line_records}
use Rattle.link.specs.declared.Refusal.{Refusal}
use Rattle.link.specs.Answer.{number_of, counted_link, count_of}
use Rattle.link.specs.declared.Counted.{Counted}
use Rattle.input.specs.Refusals.{receive_number}

pub record ReceiveOutcome : Type 0 where
  pub number : ℕ
  pub link : Link
  pub count : ℕ
  pub pool : List ℕ
  pub descriptors : List ℕ
  pub records : List ℕ

-- the board that a link holds with the memory lent to it
abbrev pub board_of : Link → List ℕ → List ℕ → Board
board_of l pool descriptors =
    record {
      receiver = decode l.line.state l.line.area;
      unit_memory = unit_memory l.units pool descriptors;
      supervision = l.supervision;
    }

-- the link that holds a board; what no line octet touches is that of l
abbrev pub link_of : Link → Board → Link
link_of l b =
    with_reception l (record { state = encode b.receiver; area = encode_area b.receiver }) b.unit_memory.units b.supervision

-- "Receive returns how many it wrote. The rest of the area is unchanged."
abbrev pub received : Link → List ℕ → List ℕ → List ℕ → List ℕ → ReceiveOutcome
received l octets pool descriptors records =
    let b = board_of l pool descriptors in
    let after = board_after l.settings b octets in
    record {
      number = 0;
      link = link_of l after;
      count = length (line_happenings l.settings b octets);
      pool = after.unit_memory.pool;
      descriptors = after.unit_memory.descriptors;
      records = sets records 0 (line_records l.settings b octets);
    }

-- what the code gives on link l, and the lent memory and records as they stand then
abbrev pub outcome_of : Link → Result Counted Refusal → List ℕ → List ℕ → List ℕ → ReceiveOutcome
outcome_of l r pool descriptors records =
    record { number = number_of r; link = counted_link l r; count = count_of r; pool = pool; descriptors = descriptors; records = records }

unfoldable pub receive_answer : Link → List ℕ → List ℕ → List ℕ → List ℕ → ReceiveOutcome
receive_answer l octets pool descriptors records =
    cond (eqb (receive_number l octets pool descriptors records) 0) (received l octets pool descriptors records)
    (record {
      number = receive_number l octets pool descriptors records;
      link = l;
      count = 0;
      pool = pool;
      descriptors = descriptors;
      records = records;
    })
