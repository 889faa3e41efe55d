-- `console_run::answer_all` has written what the lines that it has read print.
use Rattle.console_run.specs.Session.{state_of, Answers}
use Rattle.console_run.proofs.answer_all.Given as goal

abbrev pub invariant-loop : goal.invariant-loop
invariant-loop g l =
    Answers (state_of l.initial.session l.initial.begun.items l.initial.pool l.initial.descriptors l.initial.records l.initial.output)
    (state_of l.session l.begun.items l.pool l.descriptors l.records l.output) (g.R.Read.remaining l.initial.input) (g.R.Read.remaining l.input)
    (g.W.Write.contents l.initial.out) (g.W.Write.contents l.out)
