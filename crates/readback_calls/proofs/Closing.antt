-- A receive whose last octet closes a good unit, from any link in use with its filter off: the unit is handed over.
use Prim.Native.Nat.{ℕ, ◌*◌, ◌≤◌, ◌<◌}
use mathlib.Core.Path.{◌≡◌, sym, subst, ◌∙◌}
use mathlib.Core.Bool.{Bool, true, false}
use mathlib.Core.List.{List, [], ◌∷◌, ◌++◌}
use native.Mathlib.Omega.{arith}
use lib.ListN.{length, length-append}
use Rattle.bits.specs.Format.{basic}
use Rattle.bits.specs.Octets.{bits_of}
use Rattle.framing.specs.Delimitation.{closed, flagged, findings}
use Rattle.sending.specs.Stuffing.{unit_bits}
use Rattle.sending.proofs.Sent.{sent-good, sent-octets}
use Rattle.board.specs.declared.Settings.{Settings}
use Rattle.board.specs.Limits.{most_line, record_room}
use Rattle.units.specs.Units.{is_free}
use Rattle.units.specs.InnerFit.{Fits}
use Rattle.reception.specs.Line.{Board, board_after, line_records}
use Rattle.reception.proofs.Cutting.{board-cut, records-cut, records-size}
use Rattle.link.specs.Held.{Held}
use Rattle.input.proofs.Receiving.{ready}
use Rattle.readback.specs.Feeding.{board, Feed, answer, fed, wrote}
use Rattle.readback.specs.Reading.{Stands}
use Rattle.readback.specs.SlotRing.{unit_octets}
use Rattle.readback.specs.Streams.{Allowed}
use Rattle.readback.specs.Promises.{HandedOver}
use Rattle.readback.specs.Using.{InUse}
use Rattle.readback.proofs.Gathered.{flag-unclosed}
use Rattle.readback.proofs.Feeding.{can-receive, same-settings, board-fed, records-wrote}
use Rattle.readback.proofs.Effects.{stands, reported}
use Rattle.readback.proofs.Standing.{unit-length}
use Rattle.readback.proofs.Using.{taken, still-used, stands_read}

-- a link in use has the memory of its slots, and the next one is among them
use-fits : (h : Held) → InUse h → Fits h.link.settings h.link.units h.pool h.descriptors × (h.link.settings.m ≤ 278)
use-fits h u =
    let none : Feed = record { octets = []; records = [] } in
    let can = can-receive h none (taken h none u (omega arith) (omega arith)) in
    ((ready h.link [] h.pool h.descriptors [] can).fits, can.formed.settings.m.1)

-- the unit of this content is closed by the octet, and none after it in the octet
pub record Closes (s : Settings) (b : Board) (last : ℕ) (content : List ℕ) : Type 0 where
  pub behind : List Bool
  pub few : length behind ≤ 7
  pub finds : findings s.m b.receiver (bits_of 8 last) ≡ closed (unit_bits content) ∷ findings s.m flagged behind

module _ (h : Held) (u : InUse h) (mid : List ℕ) (last : ℕ) (records : List ℕ)
    (few : length (mid ++ (last ∷ [])) ≤ most_line) (room : record_room * length (mid ++ (last ∷ [])) ≤ length records) where
  abbrev whole : Feed
  whole = record { octets = mid ++ (last ∷ []); records = records }

  abbrev early : Feed
  early = record { octets = mid; records = records }

  abbrev S : Settings
  S = h.link.settings

  -- just before the last octet
  abbrev b : Board
  b = board_after S (board h) mid

  abbrev slot : ℕ
  slot = b.unit_memory.units.slots.next

  taken-whole : (answer h whole).number ≡ 0
  taken-whole = taken h whole u few room

  early-few : length mid ≤ most_line
  early-few = omega (arith, length-append mid (last ∷ []))

  early-room : record_room * length mid ≤ length records
  early-room = omega (arith, length-append mid (last ∷ []))

  taken-early : (answer h early).number ≡ 0
  taken-early = taken h early u early-few early-room

  fits : Fits S b.unit_memory.units b.unit_memory.pool b.unit_memory.descriptors
  fits =
      subst (λ (x : Board). Fits S x.unit_memory.units x.unit_memory.pool x.unit_memory.descriptors) (board-fed h early taken-early)
      (subst (λ (s : Settings). let k = fed h early in Fits s k.link.units k.pool k.descriptors) (same-settings h early taken-early)
      (use-fits (fed h early) (still-used h early u early-few early-room)).0)

  board-then : board (fed h whole) ≡ board_after S b (last ∷ [])
  board-then = board-fed h whole taken-whole ∙ board-cut S (board h) mid (last ∷ [])

  records-then : wrote h whole ≡ line_records S (board h) mid ++ line_records S b (last ∷ [])
  records-then = records-wrote h whole taken-whole ∙ records-cut S (board h) mid (last ∷ [])

  abbrev pub Handed : List ℕ → Settings → Type 0
  Handed content s =
      s.filter ≡ false → Allowed s.m content → is_free (board_after s (board h) mid).unit_memory ≡ true
      → Closes s (board_after s (board h) mid) last content
      → ((answer h whole).number ≡ 0)
      × HandedOver (fed h whole) (wrote h whole) (board_after s (board h) mid).unit_memory.units.slots.next (unit_octets content)

  pub handed : (content : List ℕ) → Handed content S
  handed content off ok free x =
      let rest = findings S.m flagged x.behind in
      let others = flag-unclosed S.m x.behind x.few in
      let good = sent-good basic content ok.least in
      let is = sent-octets content ok.octets in
      let short : length (unit_octets content) ≤ 278 = omega (arith, unit-length content, ok.most, (use-fits h u).1) in
      let stand : Stands (fed h whole) slot (unit_octets content) =
      stands S b last (unit_bits content) rest (unit_octets content) x.finds others good is (omega arith) off free fits (fed h whole) board-then in (
        taken-whole,
        record {
          stands = stand;
          reported =
              reported S b last (unit_bits content) rest (unit_octets content) x.finds others good is (omega arith) off free fits (wrote h whole)
              (line_records S (board h) mid) (omega (arith, records-size S (board h) mid)) records-then;
          read =
              (stands_read (fed h whole) slot (unit_octets content) (still-used h whole u few room)
              (subst (λ (s : Settings). slot < s.k) (sym (same-settings h whole taken-whole)) fits.next) short stand).1;
        },
      )
