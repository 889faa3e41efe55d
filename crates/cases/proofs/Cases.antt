-- The table of cases.
use Prim.Native.Nat.{ℕ, ◌*◌}
use mathlib.Core.Path.{◌≡◌, refl, ap, ◌∙◌}
use mathlib.Core.Bool.{Bool, true, false}
use mathlib.Core.List.{List, [], ◌∷◌, ◌++◌}
use native.Mathlib.Omega.{arith}
use lib.ListN.{length, replicate, length-replicate}
use Rattle.bits.specs.Format.{basic}
use Rattle.bits.specs.Octets.{bits_of, octet_of, packed, whole_octets}
use Rattle.framing.specs.Delimitation.{step_bit}
use Rattle.framing.specs.Verdict.{verdict_of}
use Rattle.monitor.proofs.Cases as monitors
use Rattle.board.specs.declared.Settings.{Settings}
use Rattle.board.specs.declared.Link.{Link}
use Rattle.board.specs.Rows.{row_of, table, row_settings}
use Rattle.records.specs.Happening.{noted}
use Rattle.records.specs.Record.{record_of, records_of}
use Rattle.units.specs.Indications.{line_indications, line_receiver}
use Rattle.units.specs.Units.{happenings, effect_of, octet_effect, closed_unit}
use Rattle.reception.specs.Line.{board_after, line_happenings, line_records}
use Rattle.link.specs.Commands.{obeyed}
use Rattle.input.specs.Receive.{ReceiveOutcome, board_of, received}
use Rattle.input.proofs.Cutting.{no-octets}
use Rattle.sending.specs.Stuffing.{flag}
use Rattle.output.specs.Output.{first_flag}
use Rattle.transmission.specs.Transmission.{Sending, send, answer, waiting_bits}
use Rattle.transmission.proofs.Cases.{p14}
use Rattle.readback.specs.Using.{Fitting, none as none-fitting, more as more-fitting}
use Rattle.readback.proofs.Sends.{sends-in-use}
use Rattle.readback.proofs.Filling.{first-answered}
use Rattle.cases.specs.Cases.{board, Cases}
use Rattle.cases.proofs.Boards.{started, held_of, sixteen, one, board-is, board-used, line_taken, line-received, line-records}
use Rattle.cases.proofs.Findings.{row-4, row-5, row-39, row-40, row-2224, row-2225}
use Rattle.cases.proofs.Filtering.{row-fill-in, row-status, row-13}

abbrev S : Settings
S = row_settings 1 16 false

-- ---- P2
records-2 : (pool descriptors : List ℕ) → line_records S (board_of (started S) pool descriptors) (126 ∷ 0 ∷ 0 ∷ 0 ∷ 126 ∷ []) ≡ 5 ∷ 0 ∷ 3 ∷ 0 ∷ replicate 12 0
unfolding line_records line_happenings records_of happenings line_indications bits_of step_bit obeyed effect_of octet_effect row_of table closed_unit verdict_of record_of whole_octets noted packed octet_of
records-2 pool descriptors = refl

-- ---- P3
hunts-on : (pool descriptors records : List ℕ)
    → let o = received (started S) (0x3f ∷ []) pool descriptors records in
    (o.count ≡ 0) × (o.link.line.state.hunting ≡ true)
unfolding board_after line_receiver line_happenings happenings line_indications bits_of step_bit obeyed effect_of octet_effect row_of table
hunts-on pool descriptors records = (refl, refl)

-- ---- P14: no bit waits on the board, and no flag has gone before
two-octets : length (board 1 false).transmitter.last ≡ 2
unfolding obeyed
two-octets = ap (λ (l : Link). length l.transmitter.last) (board-is 1 false (one false))

before : (bits : List Bool) → waiting_bits (board 1 false) ++ (first_flag (board 1 false).transmitter.flagged ++ bits) ≡ flag ++ bits
unfolding obeyed bits_of
before bits = ap (λ (l : Link). waiting_bits l ++ (first_flag l.transmitter.flagged ++ bits)) (board-is 1 false (one false))

sent : (s : Sending) → Fitting s → (answer (board 1 false) s).number ≡ 0
sent s fits =
    let pool : List ℕ = replicate (basic.slot * 1) 0 in
    let words : List ℕ = replicate (2 * 1) 0 in
    let u = board-used 1 false (one false) pool words (length-replicate {A = ℕ} (basic.slot * 1) 0) (length-replicate {A = ℕ} (2 * 1) 0) in
    first-answered (sends-in-use (held_of (board 1 false) pool words) (s ∷ []) two-octets u (more-fitting fits none-fitting)).0

-- ---- the table
pub cases : Cases
cases =
    record {
      p1 =
          λ pool descriptors records is.
          let n = no-octets (board 16 false) pool descriptors records in
          (line_taken 16 false (sixteen false) [] pool descriptors records is, n.0, n.1);
      p2 =
          λ pool descriptors records is. (
            line_taken 16 false (sixteen false) (126 ∷ 0 ∷ 0 ∷ 0 ∷ 126 ∷ []) pool descriptors records is,
            line-records 16 false (sixteen false) (126 ∷ 0 ∷ 0 ∷ 0 ∷ 126 ∷ []) pool descriptors records is ∙ records-2 pool descriptors,
          );
      p3 =
          λ pool descriptors records is.
          let e = line-received 16 false (sixteen false) (0x3f ∷ []) pool descriptors records is in
          let h = hunts-on pool descriptors records in (
            ap (λ (o : ReceiveOutcome). o.number) e,
            ap (λ (o : ReceiveOutcome). o.count) e ∙ h.0,
            ap (λ (o : ReceiveOutcome). o.link.line.state.hunting) e ∙ h.1,
          );
      p4 = row-4;
      p5 = row-5;
      p6-short = row-39;
      p6-not = row-40;
      p7-closes = row-2224;
      p7-long = row-2225;
      p8 = monitors.p8;
      p9 = monitors.p9;
      p10 = monitors.p10;
      p11 = monitors.p11;
      p12-fill-in = row-fill-in;
      p12-status = row-status;
      p13 = λ pool records records' is room. let r = row-13 pool records records' is room in (r.0, r.2.0, r.2.1, r.1, r.2.2);
      p14 =
          λ content output least most room.
          let z = sent (send (0x1f ∷ content) output) (omega arith, omega arith, room) in
          let g = p14 (board 1 false) content output z in
          (z, (g.rest, g.is ∙ before _));
    }
