-- The scope's "Proved cases", P1 to P14, as one table. The cases that speak of a line go through the calls, from the new closed link on, with whatever
-- stands in the lent memory; those that speak of events are over the monitor's events. The proof is in proofs/Cases.antt.
use Rattle.std.specs.Prelude.{ℕ, zero, suc, ◌*◌, ◌≤◌, ◌≡◌, Bool, true, false, List, [], ◌∷◌, ◌++◌, length, replicate, get_or, drop, take}
use Rattle.bits.specs.Format.{basic}
use Rattle.bits.specs.Octets.{line_bits}
use Rattle.memory.specs.Lent.{empty_descriptors}
use Rattle.monitor.specs.Promises as monitors
use Rattle.sending.specs.Stuffing.{flag}
use Rattle.board.specs.Limits.{record_octets, record_room}
use Rattle.board.specs.Rows.{row_settings}
use Rattle.board.specs.declared.Link.{Link}
use Rattle.link.specs.Calls.{hand_answer}
use Rattle.input.specs.Receive.{ReceiveOutcome, receive_answer}
use Rattle.input.specs.Promises.{written}
use Rattle.output.specs.Output.{send_answer}
use Rattle.transmission.specs.Transmission.{waiting_bits}
use Rattle.calls.specs.Call.{command, link_after}
use Rattle.calls.specs.Lending.{opening, Lent}

-- ---- the board of a case: row 1 with k slots, opened on wiped memory, and the failure monitor started
abbrev pub board : ℕ → Bool → Link
board k filter = link_after (opening (row_settings 1 k filter) ∷ command 2 ∷ [])

-- the kinds of the records that a call wrote: octet 0 of each sixteen
unfoldable pub firsts : ℕ → List ℕ → List ℕ
firsts zero records = []
firsts (suc n) records = get_or records 0 0 ∷ firsts n (drop record_octets records)

abbrev pub kinds : ReceiveOutcome → List ℕ
kinds o = firsts o.count (written o)

-- A line received by that board is answered 0 and writes records of these kinds, no more,
abbrev pub Brings : List ℕ → List ℕ → Type 0
Brings line ks =
    (pool descriptors records : List ℕ) → Lent 16 line pool descriptors records
    → let o = receive_answer (board 16 false) line pool descriptors records in
    (o.number ≡ 0) × (kinds o ≡ ks)

-- and with the filter on and every slot empty, as open leaves them, these.
abbrev pub BringsFiltered : List ℕ → List ℕ → Type 0
BringsFiltered line ks =
    (pool records : List ℕ) → Lent 16 line pool (empty_descriptors 16) records
    → let o = receive_answer (board 16 true) line pool (empty_descriptors 16) records in
    (o.number ≡ 0) × (kinds o ≡ ks)

-- a fill-in unit of zeros and a link status unit, each with its check octets and the flag behind it
abbrev pub fisu : List ℕ
fisu = 0 ∷ 0 ∷ 0 ∷ 204 ∷ 198 ∷ 126 ∷ []

abbrev pub lssu : List ℕ
lssu = 0 ∷ 0 ∷ 1 ∷ 0 ∷ 6 ∷ 229 ∷ 126 ∷ []

-- ---- the table
pub record Cases : Type 0 where
  -- "P1 no line octets: no record": and the record area is unchanged.
  pub p1 : (pool descriptors records : List ℕ) → Lent 16 [] pool descriptors records
      → let o = receive_answer (board 16 false) [] pool descriptors records in
      (o.number ≡ 0) × (o.count ≡ 0) × (o.records ≡ records)
  -- "P2 the lineview case": 7E 00 00 00 7E gives 05 00 03 00 and twelve octets 00.
  pub p2 : (pool descriptors records : List ℕ) → Lent 16 (126 ∷ 0 ∷ 0 ∷ 0 ∷ 126 ∷ []) pool descriptors records
      → let o = receive_answer (board 16 false) (126 ∷ 0 ∷ 0 ∷ 0 ∷ 126 ∷ []) pool descriptors records in
      (o.number ≡ 0) × (written o ≡ 5 ∷ 0 ∷ 3 ∷ 0 ∷ replicate 12 0)
  -- "P3 fresh link, 3F: no flag": it hunts on.
  pub p3 : (pool descriptors records : List ℕ) → Lent 16 (0x3f ∷ []) pool descriptors records
      → let o = receive_answer (board 16 false) (0x3f ∷ []) pool descriptors records in
      (o.number ≡ 0) × (o.count ≡ 0) × (o.link.line.state.hunting ≡ true)
  -- "P4 7E 7E: no record."
  pub p4 : Brings (0x7e ∷ 0x7e ∷ []) []
  -- "P5 7E FF: one abort."
  pub p5 : Brings (0x7e ∷ 0xff ∷ []) (7 ∷ [])
  -- "P6 39 zero bits between flags are short, 40 aren't."
  pub p6-short : Brings (126 ∷ 0 ∷ 0 ∷ 0 ∷ 0 ∷ 0 ∷ 191 ∷ []) (5 ∷ [])
  pub p6-not : Brings (126 ∷ 0 ∷ 0 ∷ 0 ∷ 0 ∷ 0 ∷ 126 ∷ []) (3 ∷ [])
  -- "P7 M = 278: 2,224 bits close, 2,225 are long": zero bits between flags, 278 octets of them, and one bit more.
  pub p7-closes : Brings (126 ∷ replicate 278 0 ++ (126 ∷ [])) (3 ∷ [])
  pub p7-long : Brings (126 ∷ replicate 278 0 ++ (252 ∷ 0 ∷ [])) (6 ∷ [])
  -- "P8 row 1, all errored: alarm at event 64. P9 255 good, then errored: alarm at 320, not 319. P10 T = 2, D = 1: never. P11 T = 1: first errored event."
  pub p8 : monitors.P8
  pub p9 : monitors.P9
  pub p10 : monitors.P10
  pub p11 : monitors.P11
  -- "P12 equal fill-in units: over, dropped, dropped; equal status units: over, over, dropped."
  pub p12-fill-in : BringsFiltered (126 ∷ fisu ++ fisu ++ fisu) (0 ∷ 1 ∷ 1 ∷ [])
  pub p12-status : BringsFiltered (126 ∷ lssu ++ lssu ++ lssu) (0 ∷ 0 ∷ 1 ∷ [])
  -- "P13 fill-in lost, slot freed, same again twice: lost, over, dropped." The board has one slot, which holds a unit of five octets.
  pub p13 : (pool records records' : List ℕ) → Lent 1 (126 ∷ fisu) pool (0 ∷ 5 ∷ []) records → record_room * length (fisu ++ fisu) ≤ length records'
      → let lost = receive_answer (board 1 true) (126 ∷ fisu) pool (0 ∷ 5 ∷ []) records in
      let freed = hand_answer lost.link lost.pool lost.descriptors 0 in
      let again = receive_answer freed.link (fisu ++ fisu) freed.pool freed.descriptors records' in
      (lost.number ≡ 0) × (freed.number ≡ 0) × (again.number ≡ 0) × (kinds lost ≡ 2 ∷ []) × (kinds again ≡ 0 ∷ 1 ∷ [])
  -- "P14 octet 1F after a flag goes out as 1 1 1 1 1 0 0 0 0": what the booking's first send puts out and leaves waiting is a flag, these bits, and more.
  pub p14 : (content output : List ℕ) → 2 ≤ length content → length content ≤ 275 → basic.output ≤ length output
      → let o = send_answer (board 1 false) (0x1f ∷ content) output in
      (o.number ≡ 0)
      × ((rest : List Bool)
      × (line_bits (take o.count o.output) ++ waiting_bits o.link
      ≡ flag ++ ((true ∷ true ∷ true ∷ true ∷ true ∷ false ∷ false ∷ false ∷ false ∷ []) ++ rest)))
