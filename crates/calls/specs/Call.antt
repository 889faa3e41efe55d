-- The calls of a host as one type: each with all its arguments and all lent lists, and what each answers. Nothing here but the definitions that
-- the calls' contracts cite.
use Rattle.std.specs.Prelude.{ℕ, List, [], ◌∷◌}
use Rattle.bits.specs.Machine.{run}
use Rattle.board.specs.declared.Settings.{Settings}
use Rattle.board.specs.declared.Link.{Link}
use Rattle.board.specs.Link.{new_link}
use Rattle.link.specs.Refusals.{Fault, open_faults, command_faults, clear_faults, read_faults, read_number}
use Rattle.link.specs.Calls.{open_answer, wipe_answer, command_answer, clear_answer, read_part, hand_answer}
use Rattle.input.specs.Refusals.{receive_faults}
use Rattle.input.specs.Receive.{receive_answer}
use Rattle.output.specs.Refusals.{send_faults, fill_faults}
use Rattle.output.specs.Output.{send_answer, fill_answer}

pub data Call : Type 0 where
  opens : (settings : Settings) (pool descriptors : List ℕ) → Call
  receive : (octets pool descriptors records : List ℕ) → Call
  command : (number : ℕ) → Call
  clear : (chosen : ℕ) → Call
  send : (content output : List ℕ) → Call
  fill : (output : List ℕ) → Call
  read : (pool descriptors : List ℕ) (slot : ℕ) → Call
  reads_number : (pool descriptors : List ℕ) (slot : ℕ) → Call
  hand_back : (pool descriptors : List ℕ) (slot : ℕ) → Call
  wipe : (octets words : List ℕ) → Call

-- What a call gives back: its number, the link, how many records or octets it wrote, the part that read returns, and every lent list as it
-- stands then, in the order of the arguments. Read's number is that of its companion; wipe, which has none, gives 0.
pub record Answer : Type 0 where
  pub number : ℕ
  pub link : Link
  pub count : ℕ
  pub part : List ℕ
  pub lent : List (List ℕ)

abbrev pub answer : Link → Call → Answer
answer l (opens s pool descriptors) =
    let o = open_answer l s pool descriptors in
    record { number = o.number; link = o.link; count = 0; part = []; lent = o.pool ∷ o.descriptors ∷ [] }
answer l (receive octets pool descriptors records) =
    let o = receive_answer l octets pool descriptors records in
    record { number = o.number; link = o.link; count = o.count; part = []; lent = octets ∷ o.pool ∷ o.descriptors ∷ o.records ∷ [] }
answer l (command n) =
    let o = command_answer l n in
    record { number = o.number; link = o.link; count = 0; part = []; lent = [] }
answer l (clear chosen) =
    let o = clear_answer l chosen in
    record { number = o.number; link = o.link; count = 0; part = []; lent = [] }
answer l (send content output) =
    let o = send_answer l content output in
    record { number = o.number; link = o.link; count = o.count; part = []; lent = content ∷ o.output ∷ [] }
answer l (fill output) =
    let o = fill_answer l output in
    record { number = o.number; link = o.link; count = o.count; part = []; lent = o.output ∷ [] }
answer l (read pool descriptors slot) =
    record { number = read_number l pool descriptors slot; link = l; count = 0; part = read_part l pool descriptors slot; lent = pool ∷ descriptors ∷ [] }
answer l (reads_number pool descriptors slot) =
    record { number = read_number l pool descriptors slot; link = l; count = 0; part = []; lent = pool ∷ descriptors ∷ [] }
answer l (hand_back pool descriptors slot) =
    let o = hand_answer l pool descriptors slot in
    record { number = o.number; link = o.link; count = 0; part = []; lent = o.pool ∷ o.descriptors ∷ [] }
answer l (wipe octets words) =
    let o = wipe_answer octets words in
    record { number = 0; link = o.link; count = 0; part = []; lent = o.octets ∷ o.words ∷ [] }

-- a list of calls from the new closed link, each of which gets the link as the last one left it
unfoldable pub link_after : List Call → Link
link_after cs = run (λ l c. (answer l c).link) new_link cs

-- the table of faults of each call
abbrev pub faults : Link → Call → List Fault
faults l (opens s pool descriptors) = open_faults l s pool descriptors
faults l (receive octets pool descriptors records) = receive_faults l octets pool descriptors records
faults l (command n) = command_faults l n
faults l (clear chosen) = clear_faults l
faults l (send content output) = send_faults l content output
faults l (fill output) = fill_faults l output
faults l (read pool descriptors slot) = read_faults l pool descriptors slot
faults l (reads_number pool descriptors slot) = read_faults l pool descriptors slot
faults l (hand_back pool descriptors slot) = read_faults l pool descriptors slot
faults l (wipe octets words) = []
