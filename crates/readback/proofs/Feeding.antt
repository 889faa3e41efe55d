-- Calls that are all answered 0, one after the other, do what one line does.
use Prim.Native.Nat.{ℕ, ◌+◌, ◌*◌, ◌≤◌}
use mathlib.Core.Path.{◌≡◌, refl, sym, ap, ap₂, ◌∙◌}
use mathlib.Core.List.{List, [], ◌∷◌, ◌++◌}
use native.Mathlib.Omega.{arith}
use lib.ListN.{length, length-take}
use Rattle.bits.specs.Octets.{line_bits}
use Rattle.records.specs.Record.{supervision_after, records_of}
use Rattle.board.specs.declared.Settings.{Settings}
use Rattle.units.specs.Indications.{line_receiver, line_indications}
use Rattle.units.specs.Units.{unit_memory_after, happenings}
use Rattle.reception.specs.Line.{Board, board_after, line_happenings, line_records}
use Rattle.reception.proofs.Cutting.{board-cut, records-cut}
use Rattle.input.specs.Receive.{ReceiveOutcome, link_of, received}
use Rattle.input.specs.Promises.{written}
use Rattle.input.proofs.Receiving.{Receivable, receivable}
use Rattle.input.proofs.Cutting.{answered, board-back, wrote as wrote-line}
use Rattle.link.specs.Held.{Held}
use Rattle.readback.specs.Feeding.{board, Feed, answer, fed, wrote, held_after, records_fed, octets_fed, none, more}
use Rattle.readback.specs.Reading.{FedAsOne}
use Rattle.readback.proofs.Gathered.{line-held}

-- the bits gathered in a link that can receive
pub few-gathered : (h : Held) (octets records : List ℕ) → Receivable h.link octets h.pool h.descriptors records
    → length (board h).receiver.gathered ≤ 8 * h.link.settings.m + 7
few-gathered h octets records r = omega (arith, length-take h.link.line.state.bits (line_bits h.link.line.area), r.formed.bits)

-- what is held with another board; what no line octet touches is that of h
abbrev pub holding_board : Held → Board → Held
holding_board h b = record { link = link_of h.link b; pool = b.unit_memory.pool; descriptors = b.unit_memory.descriptors }

-- ---- one call
module _ (h : Held) (f : Feed) (z : (answer h f).number ≡ 0) where
  abbrev S : Settings
  S = h.link.settings

  abbrev outcome : ReceiveOutcome
  outcome = received h.link f.octets h.pool h.descriptors f.records

  is-received : answer h f ≡ outcome
  is-received = (answered h.link f.octets h.pool h.descriptors f.records z).1

  pub can-receive : Receivable h.link f.octets h.pool h.descriptors f.records
  can-receive =
      receivable h.link f.octets h.pool h.descriptors f.records
      (answered h.link f.octets h.pool h.descriptors f.records z).0

  -- the settings stay
  pub same-settings : (fed h f).link.settings ≡ S
  same-settings = ap (λ (o : ReceiveOutcome). o.link.settings) is-received

  -- the gathered bits fit the area
  fits-area : length (board_after S (board h) f.octets).receiver.gathered ≤ 8 * 279
  unfolding board_after
  fits-area =
      omega (
        arith,
        line-held S.m f.octets (board h).receiver (few-gathered h f.octets f.records can-receive),
        can-receive.formed.settings.m,
      )

  -- what it leaves holds the board of its line,
  pub held-fed : fed h f ≡ holding_board h (board_after S (board h) f.octets)
  held-fed = ap {B = Held} (λ (o : ReceiveOutcome). record { link = o.link; pool = o.pool; descriptors = o.descriptors }) is-received

  -- and gives it back
  pub board-fed : board (fed h f) ≡ board_after S (board h) f.octets
  board-fed =
      ap board held-fed
      ∙ board-back h.link (board_after S (board h) f.octets) fits-area

  pub records-wrote : wrote h f ≡ line_records S (board h) f.octets
  records-wrote = ap written is-received ∙ wrote-line h.link f.octets h.pool h.descriptors f.records can-receive

-- ---- calls in a row
none-board : (h : Held) → board h ≡ board_after h.link.settings (board h) []
unfolding board_after line_receiver line_indications unit_memory_after line_happenings happenings supervision_after
none-board h = refl

none-records : (s : Settings) (b : Board) → [] ≡ line_records s b []
unfolding line_records line_indications line_happenings happenings records_of
none-records s b = refl

pub fed-as-one : FedAsOne
unfolding held_after records_fed octets_fed
fed-as-one h [] none = (none-board h, none-records h.link.settings (board h))
fed-as-one h (f ∷ fs) (more z a) =
    let s = h.link.settings in
    let ih = fed-as-one (fed h f) fs a in
    let same = same-settings h f z in
    let back = board-fed h f z in (
      ih.0 ∙ ap₂ (λ (x : Settings) (b : Board). board_after x b (octets_fed fs)) same back
          ∙ sym (board-cut s (board h) f.octets (octets_fed fs)),
      ap₂ (λ (u v : List ℕ). u ++ v) (records-wrote h f z)
          (ih.1 ∙ ap₂ (λ (x : Settings) (b : Board). line_records x b (octets_fed fs)) same back)
          ∙ sym (records-cut s (board h) f.octets (octets_fed fs)),
    )
