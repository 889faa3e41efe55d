-- The limits of a link, its status words and event bits, by name.
use Rattle.bits.specs.Format.{basic}
use Rattle.memory.specs.declared.Status.TheVariants.{Empty, Good, CheckWrong, NotWhole}
use Rattle.memory.specs.Lent.{status_word}
use Rattle.board.specs.declared.events.Event.TheVariants as events
use Rattle.board.specs.Events.{event_bit}
use Rattle.board.specs.Sizes.{sizes_of}
use Rattle.capi_booking.specs.declared.limits.Statuses.{Statuses}
use Rattle.capi_booking.specs.declared.limits.Events.{Events}
use Rattle.capi_booking.specs.declared.limits.HostLimits.{HostLimits}

abbrev pub status_words : Statuses
status_words = record { empty = status_word Empty; good = status_word Good; check_wrong = status_word CheckWrong; not_whole = status_word NotWhole }

abbrev pub event_words : Events
event_words =
    record {
      over = event_bit events.HandedOver;
      busy = event_bit events.Busy;
      suer = event_bit events.Suer;
      aerm = event_bit events.Aerm;
      octet = event_bit events.OctetTick;
      abort = event_bit events.Abort;
      long = event_bit events.Long;
      sent = event_bit events.Sent;
      fill = event_bit events.FillSent;
    }

abbrev pub host_limits : HostLimits
host_limits = record { sizes = sizes_of basic; statuses = status_words; events = event_words }
