-- `lineview_run::Booking::pass_all` meets its contract: the octets left, fed from here, make up all of them.
use Rattle.lineview_run.specs.View.{held}
use Rattle.lineview_run.proofs.Views.{Fed}
use Rattle.lineview_run.proofs.Booking.pass_all.Given as goal

abbrev pub invariant-loop-octet : goal.invariant-loop-octet
invariant-loop-octet l =
    Fed l.octets (held l.initial.self) (held l.self) l.records l.at l.octet-index
