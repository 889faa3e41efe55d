-- P12 and P13: lines of equal units through the filter, computed.
use Prim.Native.Nat.{ℕ, ◌*◌, ◌≤◌}
use mathlib.Core.Path.{◌≡◌, refl, sym, ap, subst, ◌∙◌}
use mathlib.Core.Bool.{true}
use mathlib.Core.List.{List, [], ◌∷◌, ◌++◌, map}
use native.Mathlib.Omega.{arith}
use lib.ListN.{length}
use Rattle.bits.specs.Format.{basic, most_longest}
use Rattle.bits.specs.Octets.{bits_of, line_bits, octet_of, packed, whole_octets}
use Rattle.framing.specs.Delimitation.{step_bit}
use Rattle.framing.specs.Verdict.{verdict_of}
use Rattle.filter.specs.Unit.{same, masked, kind_of as unit_kind}
use Rattle.filter.specs.Memory.{settled}
use Rattle.memory.specs.declared.Status.TheVariants as statuses
use Rattle.memory.specs.Lent.{empty_descriptors, status_of, length_of, with_slot, with_descriptor, empty_slot, next_slot, status_word}
use Rattle.memory.proofs.Slots.{pool-length, descriptors-length, empty-slot-length}
use Rattle.board.specs.declared.Settings.{Settings}
use Rattle.board.specs.declared.Link.{Link}
use Rattle.board.specs.Limits.{record_room}
use Rattle.board.specs.Rows.{row_of, table, row_settings}
use Rattle.units.specs.Indications.{line_indications, line_receiver}
use Rattle.units.specs.Units.{happenings, effect_of, octet_effect, closed_unit, good_unit, unit_memory_after}
use Rattle.reception.specs.Line.{board_after, line_happenings}
use Rattle.link.specs.Commands.{obeyed}
use Rattle.link.specs.Refusals.{read_number}
use Rattle.link.specs.Calls.{Outcome, outcome, hand_answer}
use Rattle.link.proofs.Answers.{done, readable}
use Rattle.input.specs.Receive.{ReceiveOutcome, board_of, received, receive_answer}
use Rattle.readback.specs.Using.{InUse}
use Rattle.readback.proofs.Using.{lent, taken, still-used, can-read}
use Rattle.calls.specs.Lending.{Lent}
use Rattle.cases.specs.Cases.{board, kinds, BringsFiltered, fisu, lssu}
use Rattle.cases.proofs.RecordKinds.{kind_of, call-kinds}
use Rattle.cases.proofs.Boards.{started, held_of, used, sixteen, one, line_taken, line-received, line-kinds}

-- ---- P12: every slot empty
abbrev filtered_kinds : List ℕ → List ℕ → List ℕ
filtered_kinds line pool =
    map kind_of (line_happenings (row_settings 1 16 true) (board_of (started (row_settings 1 16 true)) pool (empty_descriptors 16)) line)

filtered : (line ks : List ℕ) → ((pool : List ℕ) → filtered_kinds line pool ≡ ks) → BringsFiltered line ks
filtered line ks computed pool records is = (
  line_taken 16 true (sixteen true) line pool (empty_descriptors 16) records is,
  line-kinds 16 true (sixteen true) line pool (empty_descriptors 16) records is ∙ computed pool,
)

three : (pool : List ℕ) → (filtered_kinds (126 ∷ fisu ++ fisu ++ fisu) pool ≡ 0 ∷ 1 ∷ 1 ∷ []) × (filtered_kinds (126 ∷ lssu ++ lssu ++ lssu) pool ≡ 0 ∷ 0 ∷ 1 ∷ [])
unfolding line_happenings happenings line_indications bits_of step_bit obeyed effect_of octet_effect row_of table closed_unit verdict_of settled good_unit unit_kind whole_octets packed same masked octet_of empty_descriptors with_descriptor next_slot
three pool = (refl, refl)

pub row-fill-in : BringsFiltered (126 ∷ fisu ++ fisu ++ fisu) (0 ∷ 1 ∷ 1 ∷ [])
row-fill-in = filtered (126 ∷ fisu ++ fisu ++ fisu) (0 ∷ 1 ∷ 1 ∷ []) (λ pool. (three pool).0)

pub row-status : BringsFiltered (126 ∷ lssu ++ lssu ++ lssu) (0 ∷ 0 ∷ 1 ∷ [])
row-status = filtered (126 ∷ lssu ++ lssu ++ lssu) (0 ∷ 0 ∷ 1 ∷ []) (λ pool. (three pool).1)

-- ---- P13: one slot, full, then handed back
abbrev S : Settings
S = row_settings 1 1 true

abbrev lost_line : List ℕ → List ℕ → ReceiveOutcome
lost_line pool records = received (started S) (126 ∷ fisu) pool (0 ∷ 5 ∷ []) records

lost-kinds : (pool : List ℕ) → map kind_of (line_happenings S (board_of (started S) pool (0 ∷ 5 ∷ [])) (126 ∷ fisu)) ≡ 2 ∷ []
unfolding line_happenings happenings line_indications bits_of step_bit obeyed effect_of octet_effect row_of table closed_unit verdict_of settled good_unit unit_kind whole_octets packed same masked octet_of
lost-kinds pool = refl

-- the slot is still full
still_full : (pool records : List ℕ) → (lost_line pool records).descriptors ≡ 0 ∷ 5 ∷ []
unfolding board_after unit_memory_after line_indications bits_of step_bit obeyed effect_of octet_effect row_of table closed_unit verdict_of settled good_unit unit_kind whole_octets packed same masked octet_of
still_full pool records = refl

again-kinds : (pool pool' records : List ℕ)
    → let o = lost_line pool records in
    map kind_of (line_happenings S (board_of o.link pool' (with_descriptor o.descriptors 0 (status_word statuses.Empty) 0)) (fisu ++ fisu)) ≡ 0 ∷ 1 ∷ []
unfolding board_after unit_memory_after line_receiver line_bits line_happenings happenings line_indications bits_of step_bit obeyed effect_of octet_effect row_of table closed_unit verdict_of settled good_unit unit_kind whole_octets packed same masked octet_of with_descriptor next_slot
again-kinds pool pool' records = refl

-- a slot of a link in use that can be read is handed back, and the link stays in use
module _ (l : Link) (pool descriptors : List ℕ) (u : InUse (held_of l pool descriptors)) (z : read_number l pool descriptors 0 ≡ 0) where
  abbrev emptied : List ℕ
  emptied = with_slot basic pool 0 (empty_slot basic)

  abbrev free_words : List ℕ
  free_words = with_descriptor descriptors 0 (status_word statuses.Empty) 0

  handed : hand_answer l pool descriptors 0 ≡ outcome 0 l emptied free_words
  unfolding hand_answer
  handed = done _ _ _ z

  used-again : InUse (held_of l emptied free_words)
  used-again =
      let ok = readable l pool descriptors 0 z in
      record {
        opened = u.opened;
        formed = u.formed;
        fits =
            lent l.settings.k emptied free_words
            (pool-length basic pool (empty_slot basic) 0 (empty-slot-length basic) (omega (arith, ok.octets, ok.below)) ∙ ok.octets)
            (descriptors-length descriptors 0 (status_word statuses.Empty) 0 ∙ ok.words);
      }

-- the same line again, once the slot is handed back
abbrev pub Again : List ℕ → ReceiveOutcome → Type 0
Again records' o =
    let freed = hand_answer o.link o.pool o.descriptors 0 in
    let again = receive_answer freed.link (fisu ++ fisu) freed.pool freed.descriptors records' in
    (freed.number ≡ 0) × (again.number ≡ 0) × (kinds again ≡ 0 ∷ 1 ∷ [])

again-after : (pool records records' : List ℕ) → record_room * length (fisu ++ fisu) ≤ length records'
    → let o = lost_line pool records in
    InUse (held_of o.link o.pool o.descriptors) → Again records' o
unfolding obeyed
again-after pool records records' room u =
    let o = lost_line pool records in
    let full = still_full pool records in
    let z =
    can-read (held_of o.link o.pool o.descriptors) 0 u (omega arith) (ap (λ (d : List ℕ). status_of d 0) full)
    (subst (λ (d : List ℕ). length_of d 0 ≤ most_longest basic) (sym full) (omega arith)) in
    let h = handed o.link o.pool o.descriptors u z in
    let v = used-again o.link o.pool o.descriptors u z in
    let p = with_slot basic o.pool 0 (empty_slot basic) in
    let d = with_descriptor o.descriptors 0 (status_word statuses.Empty) 0 in
    let n = taken (held_of o.link p d) (record { octets = fisu ++ fisu; records = records' }) v (omega arith) room in
    subst (λ (x : Outcome).
    let again = receive_answer x.link (fisu ++ fisu) x.pool x.descriptors records' in
    (x.number ≡ 0) × (again.number ≡ 0) × (kinds again ≡ 0 ∷ 1 ∷ [])) (sym h)
    (refl, n, call-kinds o.link (fisu ++ fisu) p d records' n ∙ again-kinds pool p records)

pub row-13 : (pool records records' : List ℕ) → Lent 1 (126 ∷ fisu) pool (0 ∷ 5 ∷ []) records → record_room * length (fisu ++ fisu) ≤ length records'
    → let lost = receive_answer (board 1 true) (126 ∷ fisu) pool (0 ∷ 5 ∷ []) records in
    (lost.number ≡ 0) × (kinds lost ≡ 2 ∷ []) × Again records' lost
row-13 pool records records' is room =
    let line : List ℕ = 126 ∷ fisu in
    let h = held_of (board 1 true) pool (0 ∷ 5 ∷ []) in
    let u = used 1 true (one true) line pool (0 ∷ 5 ∷ []) records is in
    let e = line-received 1 true (one true) line pool (0 ∷ 5 ∷ []) records is in (
      line_taken 1 true (one true) line pool (0 ∷ 5 ∷ []) records is,
      line-kinds 1 true (one true) line pool (0 ∷ 5 ∷ []) records is ∙ lost-kinds pool,
      subst (λ (o : ReceiveOutcome). InUse (held_of o.link o.pool o.descriptors) → Again records' o) (sym e) (again-after pool records records' room)
          (still-used h (record { octets = line; records = records }) u is.few is.room),
    )
