-- What `console_numbers::hex_len` keeps: the octets so far and those that are left to be said are all.
use Rattle.std.proofs.Common.{length}
use Rattle.console_numbers.proofs.Pairs.{Counted}
use Rattle.console_numbers.proofs.hex_len.Given as goal

abbrev pub invariant-loop-rest : goal.invariant-loop-rest
invariant-loop-rest l = Counted l.word l.count l.left

abbrev pub decreases-loop-rest : goal.decreases-loop-rest
decreases-loop-rest l = length l.left
