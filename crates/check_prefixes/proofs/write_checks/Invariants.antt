-- `check_prefixes::write_checks` has written the checks of the beginnings so far.
use Rattle.std.proofs.Common.{length, ◌+◌, ◌-◌, ◌≤◌}
use Rattle.std.specs.Io.KnownBytes.{Appends}
use Rattle.check_prefixes.specs.Checks.{checks_of}
use Rattle.check_prefixes.proofs.write_checks.Given as goal

abbrev pub invariant-loop-n : goal.invariant-loop-n
invariant-loop-n g l =
    (l.n ≤ length l.octets + 1)
    × Appends (g.W.Write.contents l.initial.output) (g.W.Write.contents l.output) (checks_of l.octets (l.n - 1))
