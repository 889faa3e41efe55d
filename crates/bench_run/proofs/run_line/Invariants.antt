-- `bench_run::run_line` ends: each call takes octets of the line that are left.
use lib.ListN.{length}
use Rattle.bench_run.proofs.run_line.Given as goal

abbrev pub decreases-loop-calls : goal.decreases-loop-calls
decreases-loop-calls g l = length l.left
