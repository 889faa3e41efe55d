-- `console_run::pass_block` meets its contract: the octets left, passed from here, make up all of them.
use Rattle.std.specs.Prelude.{string_bytes}
use Rattle.console_run.specs.Session.{state_of}
use Rattle.console_run.proofs.Sessions.{Passed}
use Rattle.console_run.proofs.pass_block.Given as goal

abbrev pub invariant-loop-octet : goal.invariant-loop-octet
invariant-loop-octet g l =
    Passed l.octets (state_of l.initial.session l.initial.begun.items l.initial.pool l.initial.descriptors l.initial.records l.initial.output)
    (state_of l.session l.begun.items l.pool l.descriptors l.records l.output) (string_bytes l.initial.text) (string_bytes l.text) l.octet-index
