-- What a booking found and counted is given by the whole bit string since its opening, however that was cut into calls. The proofs are in
-- proofs/History.antt.
use Rattle.std.specs.Prelude.{ℕ, suc, ◌+◌, ◌%◌, ◌^◌, ◌≡◌, Bool, true, false, cond, List, [], ◌∷◌, ◌++◌, map, length}
use Rattle.bits.specs.Octets.{line_bits, whole_octets}
use Rattle.bits.specs.Format.{basic}
use Rattle.framing.specs.declared.Verdict.{Verdict}
use Rattle.framing.specs.declared.Verdict.TheVariants.{Short, NotWhole, CheckWrong, Good}
use Rattle.framing.specs.Delimitation.{Finding, closed, abort, long, new_receiver, receiver_after, findings}
use Rattle.framing.specs.Representation.{decode}
use Rattle.framing.specs.Verdict.{verdict_of}
use Rattle.filter.specs.declared.Fate.{Fate}
use Rattle.filter.specs.declared.Fate.TheVariants.{HandedOver, Dropped, Lost}
use Rattle.filter.specs.History.{FilterInput, good, command-4, fates}
use Rattle.records.specs.declared.RecordKind.{RecordKind}
use Rattle.records.specs.declared.RecordKind.TheVariants as kinds
use Rattle.records.specs.declared.Happening.{Happening}
use Rattle.calls.specs.Call.{Call, link_after}
use Rattle.bookings.specs.Booking.{booking_after}

-- ---- the good units of what was found, and of what went to the filter
abbrev pub if_good : List Bool → Verdict → List (List ℕ)
if_good u Short = []
if_good u NotWhole = []
if_good u CheckWrong = []
if_good u Good = whole_octets u ∷ []

unfoldable pub good_units : List Finding → List (List ℕ)
good_units [] = []
good_units (closed u ∷ fs) = if_good u (verdict_of basic u) ++ good_units fs
good_units (abort ∷ fs) = good_units fs
good_units (long ∷ fs) = good_units fs

unfoldable pub units_of : List FilterInput → List (List ℕ)
units_of [] = []
units_of (good u free ∷ xs) = u ∷ units_of xs
units_of (command-4 ∷ xs) = units_of xs

-- ---- the records
-- the kind of record that a finding has, where a good unit's is by its fate
pub data KindOrGood : Type 0 where
  is_good : KindOrGood
  of_kind : RecordKind → KindOrGood

abbrev pub shown_as : Verdict → KindOrGood
shown_as Short = of_kind kinds.Short
shown_as NotWhole = of_kind kinds.NotWhole
shown_as CheckWrong = of_kind kinds.CheckWrong
shown_as Good = is_good

abbrev pub shown : Finding → KindOrGood
shown (closed u) = shown_as (verdict_of basic u)
shown abort = of_kind kinds.Abort
shown long = of_kind kinds.Long

-- what happened, octet ticks left out: the kinds of the records,
abbrev pub kind_shown : RecordKind → List KindOrGood
kind_shown kinds.HandedOver = is_good ∷ []
kind_shown kinds.Dropped = is_good ∷ []
kind_shown kinds.Lost = is_good ∷ []
kind_shown kinds.CheckWrong = of_kind kinds.CheckWrong ∷ []
kind_shown kinds.NotWhole = of_kind kinds.NotWhole ∷ []
kind_shown kinds.Short = of_kind kinds.Short ∷ []
kind_shown kinds.Long = of_kind kinds.Long ∷ []
kind_shown kinds.Abort = of_kind kinds.Abort ∷ []
kind_shown kinds.Tick = []

unfoldable pub kinds_shown : List Happening → List KindOrGood
kinds_shown [] = []
kinds_shown (h ∷ hs) = kind_shown h.kind ++ kinds_shown hs

-- and the fates of good units that they tell
abbrev pub fate_told : RecordKind → List Fate
fate_told kinds.HandedOver = HandedOver ∷ []
fate_told kinds.Dropped = Dropped ∷ []
fate_told kinds.Lost = Lost ∷ []
fate_told kinds.CheckWrong = []
fate_told kinds.NotWhole = []
fate_told kinds.Short = []
fate_told kinds.Long = []
fate_told kinds.Abort = []
fate_told kinds.Tick = []

unfoldable pub fates_told : List Happening → List Fate
fates_told [] = []
fates_told (h ∷ hs) = fate_told h.kind ++ fates_told hs

-- ---- the counts
abbrev pub is_over : Fate → Bool
is_over HandedOver = true
is_over Dropped = false
is_over Lost = false

abbrev pub is_dropped : Fate → Bool
is_dropped HandedOver = false
is_dropped Dropped = true
is_dropped Lost = false

abbrev pub is_lost : Fate → Bool
is_lost HandedOver = false
is_lost Dropped = false
is_lost Lost = true

-- how many are so
unfoldable pub how_many : (Fate → Bool) → List Fate → ℕ
how_many is [] = 0
how_many is (f ∷ fs) = cond (is f) (suc (how_many is fs)) (how_many is fs)

-- "16 bits, goes round to 0 after 65,535"
abbrev pub round : ℕ → ℕ
round n = n % 2 ^ 16

-- ---- the statement: after any calls from the new closed link, of the booking that is open then
abbrev pub fates_after : List Call → List Fate
fates_after cs = let l = link_after cs in fates basic l.settings.filter l.settings.mask (booking_after cs).inputs

pub record History (cs : List Call) : Type 0 where
  -- What was found call by call, units, aborts and long units, is what ONE run of the bit rule over all line bits since opening finds,
  pub found : (booking_after cs).found ≡ findings (link_after cs).settings.m new_receiver (line_bits (booking_after cs).octets)
  -- and the receiver in the link is where that run ends.
  pub receiver : decode (link_after cs).line.state (link_after cs).line.area
      ≡ receiver_after (link_after cs).settings.m new_receiver (line_bits (booking_after cs).octets)
  -- Each of these, and nothing else but octet ticks, has its record, of the kind that it must have.
  pub recorded : kinds_shown (booking_after cs).happened ≡ map shown (booking_after cs).found
  -- The units that go to the filter are the good ones of these, in order; each has the fate that the filter gives it, and its record tells it.
  pub filtered : units_of (booking_after cs).inputs ≡ good_units (booking_after cs).found
  pub fated : fates_told (booking_after cs).happened ≡ fates_after cs
  -- Each of the four counts is the number of such units with that fate, modulo 65,536; "The good count is their sum modulo 65,536".
  pub good : (link_after cs).units.counts.good ≡ round (length (good_units (booking_after cs).found))
  pub over : (link_after cs).units.counts.over ≡ round (how_many is_over (fates_after cs))
  pub dropped : (link_after cs).units.counts.dropped ≡ round (how_many is_dropped (fates_after cs))
  pub lost : (link_after cs).units.counts.lost ≡ round (how_many is_lost (fates_after cs))
  pub sum : (link_after cs).units.counts.good
      ≡ round ((link_after cs).units.counts.over + (link_after cs).units.counts.dropped + (link_after cs).units.counts.lost)

abbrev pub Histories : Type 0
Histories = (cs : List Call) → History cs
