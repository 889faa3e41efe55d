-- A link with one part changed.
use Rattle.monitor.specs.declared.Monitor.{Monitor}
use Rattle.filter.specs.declared.Memory.{Memory}
use Rattle.board.specs.declared.Gathering.{Gathering}
use Rattle.board.specs.declared.Counting.{Counting}
use Rattle.board.specs.declared.UnitState.{UnitState}
use Rattle.board.specs.declared.Supervision.{Supervision}
use Rattle.board.specs.declared.Transmitter.{Transmitter}
use Rattle.board.specs.declared.Link.{Link}

-- what line octets change: the receiver, what deals with units, and supervision
abbrev pub with_reception : Link → Gathering → UnitState → Supervision → Link
with_reception l g u v = record { opened = l.opened; settings = l.settings; line = g; units = u; supervision = v; transmitter = l.transmitter }

abbrev pub with_units : Link → UnitState → Link
with_units l u = with_reception l l.line u l.supervision

abbrev pub with_supervision : Link → Supervision → Link
with_supervision l v = with_reception l l.line l.units v

-- what a unit sent changes: the sender, and the event bits
abbrev pub with_sender : Link → Transmitter → Supervision → Link
with_sender l t v = record { opened = l.opened; settings = l.settings; line = l.line; units = l.units; supervision = v; transmitter = t }

-- the parts within
abbrev pub with_monitor : Link → Monitor → Link
with_monitor l m = with_supervision l (record { monitor = m; events = l.supervision.events })

abbrev pub with_memory : Link → Memory → Link
with_memory l m = with_units l (record { counting = l.units.counting; memory = m; slots = l.units.slots; counts = l.units.counts })

abbrev pub with_counting : Link → Counting → Link
with_counting l c = with_units l (record { counting = c; memory = l.units.memory; slots = l.units.slots; counts = l.units.counts })
