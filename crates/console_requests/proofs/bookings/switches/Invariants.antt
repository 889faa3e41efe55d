-- What `bookings::switches` keeps: the words left, over the settings so far, give what all give.
use Rattle.std.proofs.Common.{◌≡◌}
use Rattle.console_requests.specs.Bookings.{switches_at}
use Rattle.console_requests.proofs.bookings.switches.Given as goal

abbrev pub invariant-loop-at : goal.invariant-loop-at
invariant-loop-at l = switches_at l.line l.at l.on ≡ switches_at l.line l.i l.fn.settings
