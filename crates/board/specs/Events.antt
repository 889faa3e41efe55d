-- "Event bits, kept until cleared: 0 handed over (also errored), 1 BSY, 2 SUER, 3 AERM, 4 OCT, 5 abort, 6 long, 7 sent, 8 fill-in sent."
use Rattle.std.specs.Prelude.{ℕ, ◌^◌}
use Rattle.board.specs.declared.events.Event.{Event}
use Rattle.board.specs.declared.events.Event.TheVariants.{HandedOver, Busy, Suer, Aerm, OctetTick, Abort, Long, Sent, FillSent}

abbrev pub event_number : Event → ℕ
event_number HandedOver = 0
event_number Busy = 1
event_number Suer = 2
event_number Aerm = 3
event_number OctetTick = 4
event_number Abort = 5
event_number Long = 6
event_number Sent = 7
event_number FillSent = 8

-- the word with that bit alone
abbrev pub event_bit : Event → ℕ
event_bit e = 2 ^ event_number e
