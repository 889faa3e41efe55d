-- `fields::put_memory`: a switch is printed as the number that it converts to.
use mathlib.Core.Path.{sym}
use Rattle.console_print.specs.Fields.{memory_lines}
use Rattle.console_print.proofs.fields.put_memory.Goals as goal

pub returns : goal.returns
unfolding memory_lines
returns g c = rw (sym c.from.ensures) c.writeln.ensures.bytes
