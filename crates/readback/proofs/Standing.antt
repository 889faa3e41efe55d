-- A unit on the line that was fed stands in the slot that was next, and is reported.
use Prim.Native.Nat.{ℕ, ◌+◌, ◌≤◌, ◌<◌}
use mathlib.Core.Path.{◌≡◌, ap, ◌∙◌}
use mathlib.Core.List.{List, [], ◌∷◌, ◌++◌}
use native.Mathlib.Omega.{arith}
use lib.ListN.{length, length-append}
use Rattle.bits.specs.Octets.{bits_of, whole_octets}
use Rattle.bits.specs.Format.{basic}
use Rattle.fcs.specs.Check.{check_octets}
use Rattle.framing.specs.declared.Verdict.TheVariants.{Good}
use Rattle.framing.specs.Delimitation.{Finding, closed, flagged, findings}
use Rattle.framing.specs.Verdict.{verdict_of}
use Rattle.sending.specs.Stuffing.{unit_bits}
use Rattle.sending.proofs.Sent.{sent-good, sent-octets}
use Rattle.board.specs.declared.Settings.{Settings}
use Rattle.units.specs.Indications.{line_indications}
use Rattle.units.specs.InnerFit.{Fits}
use Rattle.reception.specs.Line.{Board, board_after, line_records}
use Rattle.indications.specs.InnerWriting.{holding, indications_done}
use Rattle.reception.proofs.Octets.{ready-kept}
use Rattle.reception.proofs.Cutting.{board-cut, records-cut, records-size}
use Rattle.input.specs.InnerProgress.{progress_of}
use Rattle.input.proofs.Receiving.{Receivable, ready}
use Rattle.link.specs.Held.{Held}
use Rattle.readback.specs.Feeding.{board, Feed, held_after, records_fed, octets_fed, Answered, none, more}
use Rattle.readback.specs.Reading.{ReadBackFed}
use Rattle.readback.specs.SlotRing.{unit_octets}
use Rattle.readback.proofs.Gathered.{Unclosed, line-allowed, flag-unclosed}
use Rattle.readback.proofs.Feeding.{few-gathered, can-receive, fed-as-one}
use Rattle.readback.proofs.Closing.{last-finds}
use Rattle.readback.proofs.Effects.{stands, reported}

-- ---- the state of units and the lent memory fit after any octets from a link that can receive
module _ (h : Held) (octets records : List ℕ) (r : Receivable h.link octets h.pool h.descriptors records) (line : List ℕ) where
  abbrev S : Settings
  S = h.link.settings

  fits_after : let o = (board_after S (board h) line).unit_memory in Fits S o.units o.pool o.descriptors
  unfolding board_after indications_done
  fits_after =
      (ready-kept S (holding (progress_of h.link) h.pool h.descriptors records) (line_indications S.m (board h).receiver line)
      r.formed.settings
      (line-allowed S.m line (board h).receiver r.formed.settings.m.1 (few-gathered h octets records r))
      (ready h.link octets h.pool h.descriptors records r)).fits

-- some octet was fed, so the first call was one
record Start (h : Held) : Type 0 where
  octets : List ℕ
  records : List ℕ
  can : Receivable h.link octets h.pool h.descriptors records

start : (h : Held) (fs : List Feed) (early : List ℕ) (last : ℕ) → Answered h fs → octets_fed fs ≡ early ++ (last ∷ []) → Start h
unfolding octets_fed
start h [] early last none e = absurd (omega (arith, ap length e, length-append early (last ∷ [])))
start h (f ∷ fs) early last (more z a) e = record { octets = f.octets; records = f.records; can = can-receive h f z }

-- so the next slot is one of the link's, and no unit is longer than 278 octets
module _ (h : Held) (fs : List Feed) (early : List ℕ) (last : ℕ) (a : Answered h fs) (octets : octets_fed fs ≡ early ++ (last ∷ [])) where
  pub slot-below : (board_after h.link.settings (board h) early).unit_memory.units.slots.next < h.link.settings.k
  slot-below = let at = start h fs early last a octets in (fits_after h at.octets at.records at.can early).next

  pub longest : h.link.settings.m ≤ 278
  longest = (start h fs early last a octets).can.formed.settings.m.1

pub unit-length : (content : List ℕ) → length (unit_octets content) ≡ length content + 2
unfolding check_octets
unit-length content = length-append content (check_octets content)

pub read-back-fed : ReadBackFed
unfolding board_after
read-back-fed h fs early last before behind content a octets line few opens off least most are free = (
  stands s b last (unit_bits content) rest (unit_octets content) finds others good is short off free fits (held_after h fs) whole,
  reported s b last (unit_bits content) rest (unit_octets content) finds others good is short off free fits (records_fed h fs) (line_records s (board h) early)
      (omega (arith, records-size s (board h) early)) records,
)
  where
    s : Settings
    s = h.link.settings

    b : Board
    b = board_after s (board h) early

    at : Start h
    at = start h fs early last a octets

    whole : board (held_after h fs) ≡ board_after s b (last ∷ [])
    whole = (fed-as-one h fs a).0 ∙ ap (board_after s (board h)) octets ∙ board-cut s (board h) early (last ∷ [])

    records : records_fed h fs ≡ line_records s (board h) early ++ line_records s b (last ∷ [])
    records = (fed-as-one h fs a).1 ∙ ap (line_records s (board h)) octets ∙ records-cut s (board h) early (last ∷ [])

    rest : List Finding
    rest = findings s.m flagged behind

    finds : findings s.m b.receiver (bits_of 8 last) ≡ closed (unit_bits content) ∷ rest
    finds = last-finds s.m (board h).receiver early last before behind content line few opens most

    others : Unclosed rest
    others = flag-unclosed s.m behind few

    good : verdict_of basic (unit_bits content) ≡ Good
    good = sent-good basic content least

    is : whole_octets (unit_bits content) ≡ unit_octets content
    is = sent-octets content are

    short : length (unit_octets content) ≤ 280
    short = omega (arith, unit-length content, at.can.formed.settings.m)

    fits : Fits s b.unit_memory.units b.unit_memory.pool b.unit_memory.descriptors
    fits = fits_after h at.octets at.records at.can early
