-- How many records there were, by kind, and how many alarms.
use Rattle.std.specs.Prelude.{ℕ, ◌+◌, ◌-◌, ◌^◌, Bool, true, false, List, ◌++◌, codes, min, Option, None, Some}
use Rattle.std.specs.Fmt.{decimal}
use Rattle.records.specs.declared.RecordKind.{RecordKind}
use Rattle.records.specs.declared.RecordKind.TheVariants.{HandedOver, Dropped, Lost, CheckWrong, NotWhole, Short, Long, Abort, Tick}
use Rattle.recordview_lines.specs.declared.records_read.Record.{Record}
use Rattle.recordview_lines.specs.declared.totals.Totals.{Totals}

abbrev pub no_totals : Totals
no_totals =
    record { handed_over = 0; dropped = 0; lost = 0; check_wrong = 0; not_whole = 0; short = 0; long = 0; abort = 0; tick = 0; unreadable = 0; alarms = 0 }

-- one more; the largest number of 64 bits stays
abbrev pub more : ℕ → ℕ
more total = min (total + 1) (2 ^ 64 - 1)

-- one record of this kind more
abbrev pub of_kind : Totals → RecordKind → Totals
of_kind t HandedOver = record t { handed_over = more t.handed_over }
of_kind t Dropped = record t { dropped = more t.dropped }
of_kind t Lost = record t { lost = more t.lost }
of_kind t CheckWrong = record t { check_wrong = more t.check_wrong }
of_kind t NotWhole = record t { not_whole = more t.not_whole }
of_kind t Short = record t { short = more t.short }
of_kind t Long = record t { long = more t.long }
of_kind t Abort = record t { abort = more t.abort }
of_kind t Tick = record t { tick = more t.tick }

-- and one alarm more, if it raised one
abbrev pub with_alarm : Totals → Bool → Totals
with_alarm t true = record t { alarms = more t.alarms }
with_alarm t false = t

-- what was read of sixteen octets more
abbrev pub with_record : Totals → Option Record → Totals
with_record t None = record t { unreadable = more t.unreadable }
with_record t (Some r) = with_alarm (of_kind t r.kind) r.alarm

-- a total, a line
abbrev pub total_text : List ℕ → ℕ → List ℕ
total_text name total = codes "total " ++ (name ++ (codes "  " ++ (decimal total ++ codes "\n")))

-- those of good units, of units that are not good, of what is no unit, and of alarms
abbrev pub good_text : Totals → List ℕ
good_text t = total_text (codes "handed over") t.handed_over ++ (total_text (codes "dropped") t.dropped ++ total_text (codes "lost") t.lost)

abbrev pub bad_text : Totals → List ℕ
bad_text t =
    total_text (codes "check bits wrong") t.check_wrong
    ++ (total_text (codes "not whole octets") t.not_whole ++ (total_text (codes "short") t.short ++ total_text (codes "long") t.long))

abbrev pub other_text : Totals → List ℕ
other_text t =
    total_text (codes "abort") t.abort
    ++ (total_text (codes "octet counting") t.tick ++ (total_text (codes "no record") t.unreadable ++ total_text (codes "alarms") t.alarms))

unfoldable pub totals_text : Totals → List ℕ
totals_text t = good_text t ++ (bad_text t ++ other_text t)
