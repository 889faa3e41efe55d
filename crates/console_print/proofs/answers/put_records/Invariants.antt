-- `answers::put_records`: the text so far and the lines of the records that are left make up all.
use Rattle.std.proofs.Common.{◌≡◌, ◌++◌, take, string_bytes}
use Rattle.std.specs.List.{flat_map}
use Rattle.console_print.specs.Answers.{record_line, record_lines}
use Rattle.console_print.proofs.answers.put_records.Given as goal

abbrev pub invariant-loop-record : goal.invariant-loop-record
invariant-loop-record g l =
    string_bytes l.text ++ flat_map record_line (take l.record-iterator.n l.record-iterator.iter.rest.now) ≡ string_bytes l.initial.text ++ record_lines l.fn.count l.fn.records
