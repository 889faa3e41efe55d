-- `answers::put_records`: the text so far and the lines of the records that are left make up all.
use Rattle.std.proofs.Common.{arith, rules}
use Rattle.std.proofs.lemmas.Grind.{common_steps}
use Rattle.console_print.specs.Answers.{record_line, record_lines}
use Rattle.console_print.proofs.OneByOne.{one_more}
use Rattle.console_print.proofs.answers.put_records.Goals as goal

pub loop-record-init : goal.loop-record-init
unfolding record_lines
loop-record-init g c = grind (arith, common_steps)

pub loop-record-preserved : goal.loop-record-preserved
loop-record-preserved g c = one_more record_line _ _ _ c.in-Some.record.now _ _ _ _ (search rules) (search rules) (search rules) c.loop-record.invariant

pub returns : goal.returns
returns g c = grind (arith, common_steps)
