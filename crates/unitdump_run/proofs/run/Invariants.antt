-- `unitdump_run::run` has written the packets of what it has read.
use Rattle.unitdump_line.specs.Units.{taken_of}
use Rattle.unitdump_run.specs.File.{Dumps}
use Rattle.unitdump_run.proofs.run.Given as goal

abbrev pub invariant-loop : goal.invariant-loop
invariant-loop g l =
    Dumps (taken_of l.initial.dump l.initial.pool l.initial.descriptors) (taken_of l.dump l.pool l.descriptors)
    (g.R.Read.remaining l.initial.input) (g.R.Read.remaining l.input) (g.W.Write.contents l.initial.output) (g.W.Write.contents l.output)
