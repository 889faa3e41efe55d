-- `recordview_lines::records_read::Record::read` meets its contract: what stands where decides whether octets are a record.
use Rattle.std.proofs.Common.{arith, rules}
use Rattle.recordview_lines.proofs.Sixteen.{places, whole, spare_zero}
use Rattle.recordview_lines.proofs.records_read.Record.read.Goals as goal

pub returns-then-word-ne0-clause-none : goal.returns-then-word-ne0-clause-none
returns-then-word-ne0-clause-none c r five is = c.if-word-ne0.true (spare_zero r _ _ five is c.word.ensures.octets)

pub returns-in_err-kind-clause-none : goal.returns-in_err-kind-clause-none
returns-in_err-kind-clause-none c = rw c.from_residual.ensures (λ r five is. omega (arith, (places r _ five is).kind, c.in_err-kind.ensures.cases))

pub returns-in_err-switch-clause-none : goal.returns-in_err-switch-clause-none
returns-in_err-switch-clause-none c =
    rw c.from_residual-in_err-switch.ensures (λ r five is. omega (arith, (places r _ five is).lost, c.in_err-switch.ensures.cases))

pub returns-in_err-switch-2-clause-none : goal.returns-in_err-switch-2-clause-none
returns-in_err-switch-2-clause-none c =
    rw c.from_residual-in_err-switch-2.ensures (λ r five is. omega (arith, (places r _ five is).alarm, c.in_err-switch-2.ensures.cases))

pub returns-clause-some : goal.returns-clause-some
returns-clause-some c =
    whole c.args.octets _ _ _ _ _ _ c.word.result (search rules) c.in_ok-kind.ensures.cases c.in_ok-switch.ensures.cases c.word-2.ensures.octets c.word-3.ensures.octets c.word-4.ensures.octets
    c.in_ok-switch-2.ensures.cases c.word.ensures.octets c.if-word-ne0.false
