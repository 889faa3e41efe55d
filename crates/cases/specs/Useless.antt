-- "Useless programs and what stops them": each of those that the scope names breaks a promise, at a small example of it. The proofs are in proofs/Useless.antt.
use Rattle.std.specs.Prelude.{ℕ, suc, ◌≡◌, false, not, ◌||◌, cond, List, [], ◌∷◌, ◌++◌, eqb, length, replicate, get_or, take}
use Rattle.bits.specs.Machine.{run}
use Rattle.board.specs.declared.Settings.{Settings}
use Rattle.board.specs.declared.UnitState.{UnitState}
use Rattle.board.specs.declared.Link.{Link}
use Rattle.board.specs.Link.{new_link}
use Rattle.board.specs.Rows.{row_settings}
use Rattle.board.specs.With.{with_units}
use Rattle.calls.specs.Call.{Call, opens, receive, command, clear, send, fill, read, reads_number, hand_back, wipe, Answer, answer}
use Rattle.calls.specs.Lending.{opening}
use Rattle.cases.specs.Cases.{fisu}

-- a program: what it answers to a call on a link; and the link after calls from the new closed one
abbrev pub Program : Type 0
Program = Link → Call → Answer

abbrev pub link_by : Program → List Call → Link
link_by p cs = run (λ l c. (p l c).link) new_link cs

-- ---- what the promises ask of it
-- row 1 with one slot, and with the threshold 2
abbrev pub one : Settings
one = row_settings 1 1 false

abbrev pub two : Settings
two = record { k = 1; m = 278; n = 16; t = 2; d = 256; a = 1; mask = one.mask; filter = false; itu = false; orn = false }

-- a line received in memory with its slot empty
abbrev pub received : List ℕ → Call
received line = receive line (replicate 280 0) (32768 ∷ 0 ∷ []) (replicate 1024 0)

-- read-back: the content is sent, a fill puts its closing flag out, and the octets that went out put it into the slot of a booking that receives them
abbrev pub line_by : Program → List ℕ → List ℕ
line_by p content =
    let sent = p (link_by p (opening one ∷ [])) (send content (replicate 336 0)) in
    let filled = p sent.link (fill (replicate 336 0)) in
    take sent.count (get_or sent.lent 1 []) ++ take filled.count (get_or filled.lent 0 [])

abbrev pub ReadsBack : Program → List ℕ → Type 0
ReadsBack p content =
    let a = p (link_by p (opening one ∷ [])) (received (line_by p content)) in
    (a.number ≡ 0) × (take (length content) (get_or a.lent 1 []) ≡ content)

-- a unit of five octets whose check is wrong
abbrev pub wrong : Call
wrong = received (0x7e ∷ 0 ∷ 0 ∷ 0 ∷ 0 ∷ 0 ∷ 0x7e ∷ [])

pub record Useful (p : Program) : Type 0 where
  pub reads-back : ReadsBack p (0x1f ∷ 2 ∷ 3 ∷ [])
  pub reads_other : ReadsBack p (1 ∷ 2 ∷ 3 ∷ [])
  -- the wipe: each lent octet and word is zero
  pub wipes : (p new_link (wipe (1 ∷ []) (1 ∷ []))).lent ≡ (0 ∷ []) ∷ (0 ∷ []) ∷ []
  -- the alarm over lists of calls: the alarm at the second event, the end of a stretch that reaches the threshold 2: octet 13 of its record
  pub second-event : get_or (get_or (p (link_by p (opening two ∷ command 2 ∷ wrong ∷ [])) wrong).lent 3 []) 13 0 ≡ 1
  -- counts by the history of units: none at opening, two after two good units
  pub none-good : (link_by p (opening one ∷ [])).units.counts.good ≡ 0
  pub two_good : (link_by p (opening one ∷ received (0x7e ∷ fisu ++ fisu) ∷ [])).units.counts.good ≡ 2

-- ---- the useless programs
-- the lists that a call is lent, as they were
abbrev pub lent_to : Call → List (List ℕ)
lent_to (opens s pool descriptors) = pool ∷ descriptors ∷ []
lent_to (receive octets pool descriptors records) = octets ∷ pool ∷ descriptors ∷ records ∷ []
lent_to (command n) = []
lent_to (clear chosen) = []
lent_to (send content output) = content ∷ output ∷ []
lent_to (fill output) = output ∷ []
lent_to (read pool descriptors slot) = pool ∷ descriptors ∷ []
lent_to (reads_number pool descriptors slot) = pool ∷ descriptors ∷ []
lent_to (hand_back pool descriptors slot) = pool ∷ descriptors ∷ []
lent_to (wipe octets words) = octets ∷ words ∷ []

abbrev pub unchanged : ℕ → Program
unchanged n l c = record { number = n; link = l; count = 0; part = []; lent = lent_to c }

-- "refusing everything", with a number other than 0
abbrev pub refuses : ℕ → Program
refuses n = unchanged (suc n)

-- "one fixed answer"
abbrev pub fixed : Answer → Program
fixed a l c = a

-- "doing nothing"
abbrev pub idle : Program
idle = unchanged 0

-- "working on the first unit only": once a unit was counted, good or errored, nothing more is done
abbrev pub first_only : Program
first_only l c =
    cond (not (eqb l.supervision.monitor.count 0) || not (eqb l.units.counts.good 0)) (unchanged 0 l c) (answer l c)

-- "an invented count": always n good units
abbrev pub with_good : ℕ → UnitState → UnitState
with_good n u =
    record {
      counting = u.counting;
      memory = u.memory;
      slots = u.slots;
      counts = record { good = n; over = u.counts.over; dropped = u.counts.dropped; lost = u.counts.lost };
    }

abbrev pub invents : ℕ → Program
invents n l c =
    let a = answer l c in record { number = a.number; link = with_units a.link (with_good n a.link.units); count = a.count; part = a.part; lent = a.lent }

-- ---- the statement
pub record NoneUseless : Type 0 where
  pub useful : Useful answer
  pub not-refusing : (n : ℕ) → ¬ Useful (refuses n)
  pub not-fixed : (a : Answer) → ¬ Useful (fixed a)
  pub not-idle : ¬ Useful idle
  pub not-first-only : ¬ Useful first_only
  pub not-invented : (n : ℕ) → ¬ Useful (invents n)
