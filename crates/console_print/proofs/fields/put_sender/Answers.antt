-- `fields::put_sender`: a switch is printed as the number that it converts to.
use mathlib.Core.Path.{sym}
use Rattle.console_print.specs.Fields.{sender_lines}
use Rattle.console_print.proofs.fields.put_sender.Goals as goal

pub returns : goal.returns
unfolding sender_lines
returns g c = rw (sym c.from.ensures, sym c.from-2.ensures) c.writeln.ensures.bytes
