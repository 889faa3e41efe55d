-- "Command: 1 monitor off (its counts stay), 2 start failure monitor, 3 start alignment monitor, 4 next unit must be handed over (empties the
-- filter), 5 enter octet counting."
use Rattle.std.specs.Prelude.{ℕ, Bool, true, false, cond, eqb, Option, Some, None, Result, Ok, Err}
use Rattle.bits.specs.Format.{basic}
use Rattle.monitor.specs.declared.Mode.TheVariants.{Failure, Alignment}
use Rattle.monitor.specs.Monitor.{started, stopped}
use Rattle.filter.specs.Memory.{empty_memory}
use Rattle.board.specs.declared.Link.{Link}
use Rattle.board.specs.With.{with_monitor, with_memory, with_counting}
use Rattle.link.specs.declared.Refusal.{Refusal}
use Rattle.link.specs.declared.Refusal.TheVariants.{UnknownCommand}
use Rattle.link.specs.declared.Command.{Command}
use Rattle.link.specs.declared.Command.TheVariants.{MonitorOff, StartFailure, StartAlignment, MustHandOver, CountOctets}

-- the command of a number
unfoldable pub command_of : ℕ → Option Command
command_of n =
    cond (eqb n 1) (Some MonitorOff)
    (cond (eqb n 2) (Some StartFailure)
    (cond (eqb n 3) (Some StartAlignment) (cond (eqb n 4) (Some MustHandOver) (cond (eqb n 5) (Some CountOctets) None))))

abbrev pub is_unknown : Option Command → Bool
is_unknown (Some command) = false
is_unknown None = true

-- a command that is known, or the refusal of one that is not
abbrev pub known : Option Command → Result Command Refusal
known (Some command) = Ok command
known None = Err UnknownCommand

-- what a command makes of a link
unfoldable pub obeyed : Command → Link → Link
obeyed MonitorOff l = with_monitor l (stopped l.supervision.monitor)
obeyed StartFailure l = with_monitor l (started Failure)
obeyed StartAlignment l = with_monitor l (started Alignment)
obeyed MustHandOver l = with_memory l (empty_memory basic)
obeyed CountOctets l = with_counting l (record { on = true; left = l.units.counting.left })

-- what the command of a number makes of it, if there is one
abbrev pub obeying : Option Command → Link → Link
obeying (Some command) l = obeyed command l
obeying None l = l
