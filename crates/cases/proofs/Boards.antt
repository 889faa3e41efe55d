-- The board of a case: open on wiped memory and command 2 are not refused, and the link they leave is in use.
use Prim.Native.Nat.{ℕ, ◌*◌}
use mathlib.Core.Path.{◌≡◌, refl, sym, ap, subst, ◌∙◌}
use mathlib.Core.Bool.{Bool, true, false}
use mathlib.Core.List.{List, [], ◌∷◌, map}
use lib.ListN.{length}
use Rattle.bits.specs.Format.{basic}
use Rattle.board.specs.declared.Settings.{Settings}
use Rattle.board.specs.declared.Link.{Link}
use Rattle.board.specs.Malformed.{in_range, malformed}
use Rattle.board.specs.Rows.{row_of, table, row_settings}
use Rattle.link.specs.Answer.{Answer}
use Rattle.link.specs.declared.Command.TheVariants.{StartFailure}
use Rattle.link.specs.Commands.{command_of, obeyed}
use Rattle.link.specs.Refusals.{first, command_number}
use Rattle.link.specs.Calls.{opened_link, command_answer}
use Rattle.link.specs.Held.{Held}
use Rattle.link.proofs.Answers.{done}
use Rattle.calls.specs.Call.{Call, command, link_after}
use Rattle.readback.specs.Using.{InUse}
use Rattle.readback.proofs.Using.{lent, taken}
use Rattle.promises.proofs.Opening.{opening-link, opened-first}
use Rattle.promises.proofs.Holding.{holds_after}
use Rattle.reception.specs.Line.{Board, line_happenings, line_records}
use Rattle.input.specs.Receive.{ReceiveOutcome, board_of, received, receive_answer}
use Rattle.input.specs.Promises.{written}
use Rattle.input.proofs.Receiving.{receivable}
use Rattle.input.proofs.Cutting.{answered, wrote}
use Rattle.cases.proofs.RecordKinds.{kind_of, call-kinds}
use Rattle.calls.specs.Lending.{opening, Lent}
use Rattle.cases.specs.Cases.{board, kinds}

-- the link that open and command 2 leave
abbrev pub started : Settings → Link
started s = obeyed StartFailure (opened_link s)

-- ---- settings in range, and wiped memory of their slots
module _ (s : Settings) (range : in_range basic s ≡ true) where
  abbrev calls : List Call
  calls = opening s ∷ command 2 ∷ []

  starts : command_number (opened_link s) 2 ≡ 0
  unfolding command_number command_of first
  starts = rw (subst (λ (l : Link). malformed l ≡ false) (opened-first s range) (holds_after (opening s ∷ [])).formed)

  command-link : (command_answer (opened_link s) 2).link ≡ started s
  unfolding command_answer command_of
  command-link = ap (λ (o : Answer). o.link) (done _ _ _ starts)

  link-is : link_after calls ≡ started s
  unfolding link_after
  link-is = ap (λ (l : Link). (command_answer l 2).link) (opening-link s range) ∙ command-link

  formed : malformed (started s) ≡ false
  formed = subst (λ (l : Link). malformed l ≡ false) link-is (holds_after calls).formed

abbrev pub held_of : Link → List ℕ → List ℕ → Held
held_of l pool descriptors = record { link = l; pool = pool; descriptors = descriptors }

-- ---- the board of k slots
module _ (k : ℕ) (filter : Bool) (range : in_range basic (row_settings 1 k filter) ≡ true) where
  abbrev s : Settings
  s = row_settings 1 k filter

  pub board-is : board k filter ≡ started s
  board-is = link-is s range

  pub board-used : (lent-pool descriptors : List ℕ) → length lent-pool ≡ basic.slot * k → length descriptors ≡ 2 * k → InUse (held_of (board k filter) lent-pool descriptors)
  unfolding obeyed
  board-used lent-pool descriptors octets number =
      subst (λ (l : Link). InUse (held_of l lent-pool descriptors)) (sym board-is)
      (record { opened = refl; formed = formed s range; fits = lent k lent-pool descriptors octets number })

  -- a line in lent memory of its sizes is taken
  module _ (line lent-pool descriptors records : List ℕ) (is : Lent k line lent-pool descriptors records) where
    abbrev answer : ReceiveOutcome
    answer = receive_answer (board k filter) line lent-pool descriptors records

    abbrev then : ReceiveOutcome
    then = received (started s) line lent-pool descriptors records

    abbrev b : Board
    b = board_of (started s) lent-pool descriptors

    pub used : InUse (held_of (board k filter) lent-pool descriptors)
    used = board-used lent-pool descriptors is.slots is.words

    pub line_taken : answer.number ≡ 0
    line_taken = taken (held_of (board k filter) lent-pool descriptors) (record { octets = line; records = records }) used is.few is.room

    also : (receive_answer (started s) line lent-pool descriptors records).number ≡ 0
    also = ap (λ (l : Link). (receive_answer l line lent-pool descriptors records).number) (sym board-is) ∙ line_taken

    pub line-received : answer ≡ then
    line-received =
        ap (λ (l : Link). receive_answer l line lent-pool descriptors records) board-is
        ∙ (answered (started s) line lent-pool descriptors records also).1

    -- its records are the line's, and so are their kinds
    pub line-records : written answer ≡ line_records s b line
    unfolding obeyed
    line-records =
        ap written line-received
        ∙ wrote (started s) line lent-pool descriptors records
        (receivable (started s) line lent-pool descriptors records (answered (started s) line lent-pool descriptors records also).0)

    pub line-kinds : kinds answer ≡ map kind_of (line_happenings s b line)
    unfolding obeyed
    line-kinds =
        ap (λ (l : Link). kinds (receive_answer l line lent-pool descriptors records)) board-is ∙ call-kinds (started s) line lent-pool descriptors records also

pub sixteen : (filter : Bool) → in_range basic (row_settings 1 16 filter) ≡ true
unfolding in_range row_of table
sixteen filter = refl

pub one : (filter : Bool) → in_range basic (row_settings 1 1 filter) ≡ true
unfolding in_range row_of table
one filter = refl
