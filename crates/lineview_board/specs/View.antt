-- "opens row 1 with 16 slots, the switches off and the mask all ones, starts the failure monitor, feeds one octet at a time, hands back
-- filled slots at once"
use Rattle.std.specs.Prelude.{ℕ, zero, suc, ◌*◌, false, List, [], ◌∷◌, take, replicate}
use Rattle.board.specs.Limits.{record_octets, record_room}
use Rattle.bits.specs.Machine.{outs}
use Rattle.board.specs.declared.Settings.{Settings}
use Rattle.board.specs.declared.Link.{Link}
use Rattle.board.specs.Link.{new_link}
use Rattle.board.specs.Rows.{row_settings}
use Rattle.link.specs.Calls.{open_answer, command_answer}
use Rattle.link.specs.Held.{Held, handed_back}
use Rattle.input.specs.Receive.{ReceiveOutcome, receive_answer}

abbrev pub row_one : Settings
row_one = row_settings 1 16 false

-- opened, then command 2
unfoldable pub booking_opened : Settings → List ℕ → List ℕ → Held
booking_opened s pool descriptors =
    let o = open_answer new_link s pool descriptors in
    record { link = (command_answer o.link 2).link; pool = o.pool; descriptors = o.descriptors }

-- the program's booking
abbrev pub board_opened : List ℕ → List ℕ → Held
board_opened pool descriptors = booking_opened row_one pool descriptors

-- so many slots, from one on
unfoldable pub handed_from : ℕ → ℕ → Held → Held
handed_from slot zero h = h
handed_from slot (suc n) h = handed_from (suc slot) n (handed_back h slot)

-- every slot
abbrev pub filled_back : Held → Held
filled_back h = handed_from 0 16 h

-- one line octet received, then the slots
unfoldable pub octet_fed : Link → ℕ → List ℕ → List ℕ → List ℕ → ReceiveOutcome
octet_fed l octet pool descriptors records =
    let r = receive_answer l (octet ∷ []) pool descriptors records in
    let h = filled_back (record { link = r.link; pool = r.pool; descriptors = r.descriptors }) in
    record {
      number = r.number;
      link = h.link;
      count = r.count;
      pool = h.pool;
      descriptors = h.descriptors;
      records = r.records;
    }

-- the booking after one line octet, for which a clear record area is lent
abbrev pub passed : Held → ℕ → Held
passed h octet =
    let f = octet_fed h.link octet h.pool h.descriptors (replicate record_room 0) in record { link = f.link; pool = f.pool; descriptors = f.descriptors }

-- "writes records": those of each octet, as they come
abbrev pub view_records : Held → ℕ → List ℕ
view_records h octet = let f = octet_fed h.link octet h.pool h.descriptors (replicate record_room 0) in take (record_octets * f.count) f.records

unfoldable pub all_written : Held → List ℕ → List ℕ
all_written h octets = outs passed view_records h octets
