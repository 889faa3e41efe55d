-- A receive call answered 0, the board that its link gives back, and the sum that the good count is.
use Prim.Native.Nat.{ℕ, ◌+◌, ◌*◌, ◌≤◌}
use mathlib.Core.Path.{◌≡◌, refl, sym, ap, subst, ◌∙◌}
use mathlib.Core.List.{List}
use native.Mathlib.Omega.{arith}
use borrow.Author.Tests.{eqb-true, eqb-false}
use lib.ListN.{length, take, drop}
use lib.Seq.{sets-eq, take_at}
use Rattle.std.proofs.lemmas.Bool.{cond_both}
use Rattle.board.specs.Limits.{record_octets}
use Rattle.bits.proofs.Packing.{unpack}
use Rattle.board.specs.declared.Link.{Link}
use Rattle.records.specs.Record.{records_of}
use Rattle.units.specs.Indications.{line_indications}
use Rattle.units.specs.Units.{happenings}
use Rattle.units.specs.Promises.{Sums}
use Rattle.reception.specs.Line.{Board, line_happenings, line_records}
use Rattle.reception.proofs.Cutting.{records-size, three-each, sum-over-line}
use Rattle.link.specs.Tables.{rising}
use Rattle.input.specs.Refusals.{receive_number}
use Rattle.std.specs.Prelude.{Option, Some, None}
use Rattle.link.specs.declared.Command.{Command}
use Rattle.link.specs.declared.Command.TheVariants.{MonitorOff, StartFailure, StartAlignment, MustHandOver, CountOctets}
use Rattle.link.specs.Commands.{command_of, obeyed, obeying}
use Rattle.link.specs.Calls.{Outcome, open_answer, command_answer}
use Rattle.link.specs.Answer.{Answer}
use Rattle.input.specs.Receive.{ReceiveOutcome, board_of, link_of, received, receive_answer}
use Rattle.input.specs.Promises.{ReceiveRises, RefusedReceive, written, SumAtOpen, SumKeptByReceive, SumKeptByCommand, NoOctets}
use Rattle.link.proofs.Answers.{done, refused}
use Rattle.input.proofs.Receiving.{Receivable}

pub receive-rises : ReceiveRises
unfolding rising
receive-rises l octets pool descriptors records = refl

pub refused-receive : RefusedReceive
unfolding receive_answer
refused-receive l octets pool descriptors records z = refused _ _ _ z

-- ---- a call answered 0 has no fault, and gives what is received
pub answered : (l : Link) (octets pool descriptors records : List ℕ) → (receive_answer l octets pool descriptors records).number ≡ 0
    → (receive_number l octets pool descriptors records ≡ 0) × (receive_answer l octets pool descriptors records ≡ received l octets pool descriptors records)
unfolding receive_answer
answered l octets pool descriptors records e =
    let n = receive_number l octets pool descriptors records in
    cond_both _ _ _ (λ (o : ReceiveOutcome). o.number ≡ 0 → (n ≡ 0) × (o ≡ received l octets pool descriptors records))
    (λ q h. (eqb-true n 0 q, refl)) (λ q h. absurd (eqb-false n 0 q h)) e

-- the records that it wrote are those of the line
pub wrote : (l : Link) (octets pool descriptors records : List ℕ) → Receivable l octets pool descriptors records
    → written (received l octets pool descriptors records) ≡ line_records l.settings (board_of l pool descriptors) octets
wrote l octets pool descriptors records r =
    let b = board_of l pool descriptors in
    let rs = line_records l.settings b octets in
    let n : length rs ≡ record_octets * length (line_happenings l.settings b octets) = records-size l.settings b octets in
    let fit : 0 + length rs ≤ length records = omega (arith, n, three-each l.settings b octets r.formed.settings.m.0, r.room) in
    ap (take (record_octets * length (line_happenings l.settings b octets))) (sets-eq rs records 0 fit)
    ∙ take_at rs (drop (0 + length rs) records) (record_octets * length (line_happenings l.settings b octets)) n

-- the link that holds a board gives that board back
pub board-back : (l : Link) (b : Board) → length b.receiver.gathered ≤ 8 * 279 → board_of (link_of l b) b.unit_memory.pool b.unit_memory.descriptors ≡ b
board-back l b h =
    let g = unpack 279 b.receiver.gathered h in
    λ i. record { receiver = record { run = b.receiver.run; hunting = b.receiver.hunting; gathered = g i }; unit_memory = b.unit_memory; supervision = b.supervision }

-- ---- the good count
pub sum-at-open : SumAtOpen
unfolding open_answer
sum-at-open l s pool descriptors z = subst (λ (x : Outcome). Sums x.link.units.counts) (sym (done _ _ _ z)) refl

pub sum-kept-by-receive : SumKeptByReceive
unfolding receive_answer
sum-kept-by-receive l octets pool descriptors records e =
    cond_both _ _ _ (λ (o : ReceiveOutcome). Sums o.link.units.counts) (λ q. sum-over-line l.settings (board_of l pool descriptors) octets e) (λ q. e)

obeyed-counts : (c : Command) (l : Link) → (obeyed c l).units.counts ≡ l.units.counts
unfolding obeyed
obeyed-counts MonitorOff l = refl
obeyed-counts StartFailure l = refl
obeyed-counts StartAlignment l = refl
obeyed-counts MustHandOver l = refl
obeyed-counts CountOctets l = refl

obeying-counts : (c : Option Command) (l : Link) → (obeying c l).units.counts ≡ l.units.counts
obeying-counts (Some c) l = obeyed-counts c l
obeying-counts None l = refl

pub sum-kept-by-command : SumKeptByCommand
unfolding command_answer
sum-kept-by-command l command e =
    cond_both _ _ _ (λ (a : Answer). Sums a.link.units.counts) (λ q. subst Sums (sym (obeying-counts (command_of command) l)) e) (λ q. e)

-- ---- P1
pub no-octets : NoOctets
unfolding receive_answer line_happenings line_records happenings line_indications records_of
no-octets l pool descriptors records =
    cond_both _ _ _ (λ (o : ReceiveOutcome). (o.count ≡ 0) × (o.records ≡ records)) (λ q. (refl, refl)) (λ q. (refl, refl))
