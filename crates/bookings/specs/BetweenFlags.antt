-- By reading the line: what a booking found between two flags of its line. The proofs are in proofs/BetweenFlags.antt.
use Rattle.std.specs.Prelude.{◌≡◌, Bool, true, List, ◌++◌}
use Rattle.bits.specs.Octets.{line_bits}
use Rattle.framing.specs.Delimitation.{new_receiver, flagged, findings}
use Rattle.sending.specs.Stuffing.{flag}
use Rattle.delimitation.specs.BetweenFlags.{no_six, between, found_of}
use Rattle.calls.specs.Call.{Call, link_after}
use Rattle.bookings.specs.Booking.{booking_after}

-- Wherever two flags stand in the bits since opening, across octets and calls, with no run of six ones between them, the booking found between them exactly
-- the bits there with each zero after five ones removed (`between`), or that they were too long, or nothing if there were none (`found_of`): after what it found up to
-- the first flag, and before what it finds from the second flag on.
abbrev pub FoundBetweenFlags : Type 0
FoundBetweenFlags =
    (cs : List Call) (before bs after : List Bool)
    → let m = (link_after cs).settings.m in
    line_bits (booking_after cs).octets ≡ before ++ (flag ++ (bs ++ (flag ++ after))) → no_six 0 bs ≡ true
    → (booking_after cs).found ≡ findings m new_receiver (before ++ flag) ++ (found_of m (between bs) ++ findings m flagged after)
