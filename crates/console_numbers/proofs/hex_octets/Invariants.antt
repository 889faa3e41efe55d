-- What `console_numbers::hex_octets` keeps: the octets that are written, and those that the rest of the word says, are all.
use Rattle.console_numbers.proofs.Front.{Written}
use Rattle.console_numbers.proofs.hex_octets.Given as goal

abbrev pub invariant-loop-place : goal.invariant-loop-place
invariant-loop-place l = Written l.word l.left l.place-items l.place-index
