-- `records::write_record` meets its contract: the record's octets are copied to its place.
use Rattle.std.proofs.Common.{◌≡◌, ◌*◌, length, arith}
use mathlib.Core.Path.{sym, ap, ◌∙◌}
use Rattle.records.specs.Record.{record_of}
use Rattle.records.proofs.Writing.{copied}
use Rattle.records.proofs.write_record.Goals as goal

pub returns : goal.returns
returns c =
    let s = c.args in
    let l : length c.record.result ≡ 16 = omega (arith, c.record.type_inv) in
    let v = record_of s.h s.count s.raised in
    copied s.records.now _ v (16 * s.n) (c.copy_from_slice.ensures.after ∙ c.record.ensures) (sym (ap length c.record.ensures) ∙ l) (omega arith)
