-- Happenings and records in a row.
use Prim.Native.Nat.{ℕ, ◌+◌, ◌*◌}
use mathlib.Core.Path.{◌≡◌, refl, sym, ap, ◌∙◌}
use mathlib.Core.List.{[], ◌∷◌}
use native.Mathlib.Omega.{arith}
use lib.ListN.{length, get_or, length-append}
use lib.Seq.{sets, get_or-append-add}
use Rattle.board.specs.Limits.{record_octets}
use Rattle.bits.specs.Octets.{worth}
use Rattle.bits.proofs.Machines.{run-append, outs-append}
use Rattle.monitor.specs.declared.Limits.{Limits}
use Rattle.records.specs.declared.Happening.{Happening}
use Rattle.board.specs.declared.Supervision.{Supervision}
use Rattle.records.specs.declared.Noted.{Noted}
use Rattle.records.specs.Record.{record_of, supervised, recorded, supervision_after, records_of}
use Rattle.records.specs.Promises.{none, more, RecordSize, OctetThirteen, CountAfter, NoEvent, SupervisionAppend, RecordsAppend, RecordsLength, RecordByRecord}
use Rattle.bits.proofs.Writing.{sets-append}
use Rattle.records.proofs.Writing.{ending}
use Rattle.records.proofs.Noting.{noted-none}

pub record-size : RecordSize
unfolding record_of
record-size h count raised e =
    let r : length (ending h raised) ≡ 8 = omega (arith, length-append h.first (worth raised ∷ 0 ∷ 0 ∷ [])) in
    omega arith

pub octet-thirteen : OctetThirteen
unfolding record_of
octet-thirteen h count raised e =
    let k : 5 ≡ length h.first + 0 = omega arith in
    ap (λ (k : ℕ). get_or (ending h raised) k 0) k ∙ get_or-append-add h.first (worth raised ∷ 0 ∷ 0 ∷ []) 0 0

pub count-after : CountAfter
unfolding record_of
count-after l w h = refl

pub no-event : NoEvent
no-event l w h e = (ap (λ (x : Noted). x.supervision.monitor) (noted-none l w h e), ap (λ (x : Noted). x.raised) (noted-none l w h e))

pub supervision-append : SupervisionAppend
unfolding supervision_after
supervision-append l w xs ys = run-append (supervised l) xs ys w

pub records-append : RecordsAppend
unfolding records_of supervision_after
records-append l w xs ys = outs-append (supervised l) (recorded l) xs ys w

-- the same of a happening's own record
sixteen : (l : Limits) (w : Supervision) (h : Happening) → length h.first ≡ 5 → length (recorded l w h) ≡ record_octets
sixteen l w h e = record-size h _ _ e

pub records-length : RecordsLength
unfolding records_of
records-length l w [] none = refl
records-length l w (h ∷ hs) (more e es) =
    omega
    (arith, length-append (recorded l w h) (records_of l (supervised l w h) hs), records-length l (supervised l w h) hs es, sixteen l w h e)

pub record-by-record : RecordByRecord
unfolding records_of
record-by-record l w h hs out n e =
    let k : record_octets * n + length (recorded l w h) ≡ record_octets * (n + 1) = omega (arith, sixteen l w h e) in
    sym
    (sets-append (recorded l w h) (records_of l (supervised l w h) hs) out (record_octets * n)
    ∙ ap (λ (j : ℕ). sets (sets out (record_octets * n) (recorded l w h)) j (records_of l (supervised l w h) hs)) k)
