-- The header of a signal unit: its first three octets.
use Rattle.std.specs.Prelude.{ℕ, ◌/◌, ◌%◌, Bool, true, false, List, [], ◌++◌, codes, slice_index, Option, None, Some, if◌then◌else◌, nat_le, ◌&&◌}
use Rattle.std.specs.Fmt.{decimal}
use Rattle.records.specs.declared.RecordKind.{RecordKind}
use Rattle.records.specs.declared.RecordKind.TheVariants.{HandedOver, Dropped, Lost, CheckWrong, NotWhole, Short, Long, Abort, Tick}
use Rattle.recordview_lines.specs.declared.headers.Header.{Header}
use Rattle.recordview_lines.specs.declared.records_read.Record.{Record}

-- a sequence number is the low seven bits of its octet, its indicator bit the highest; the length indicator is the low six bits of its octet
abbrev pub header_of : ℕ → ℕ → ℕ → Header
header_of backward forward indicator =
    record { bsn = backward % 128; bib = backward / 128; fsn = forward % 128; fib = forward / 128; li = indicator % 64 }

-- handed over, dropped or lost
abbrev pub is_good : RecordKind → Bool
is_good HandedOver = true
is_good Dropped = true
is_good Lost = true
is_good CheckWrong = false
is_good NotWhole = false
is_good Short = false
is_good Long = false
is_good Abort = false
is_good Tick = false

-- the header of a good unit, if all of it is there
abbrev pub header_in : Record → Option Header
header_in r =
    if is_good r.kind && nat_le 3 r.length then Some (header_of (slice_index r.first 0) (slice_index r.first 1) (slice_index r.first 2)) else None

abbrev pub header_text : Option Header → List ℕ
header_text None = []
header_text (Some h) =
    codes "  BSN " ++ (decimal h.bsn ++ (codes " BIB " ++ (decimal h.bib ++ (codes " FSN " ++ (decimal h.fsn ++ (codes " FIB " ++ (decimal h.fib ++ (codes " LI " ++ decimal h.li))))))))
