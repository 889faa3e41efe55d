-- How receive's answer is met: refused, or the octets are taken; and what no fault says.
use Prim.Native.Nat.{ℕ, ◌+◌, ◌*◌, ◌≤◌}
use mathlib.Core.Path.{◌≡◌, sym, ap, ◌∙◌}
use mathlib.Core.List.{List}
use native.Mathlib.Nat.{zero-add}
use native.Mathlib.Omega.{arith}
use lib.ListN.{length, take}
use borrow.Author.Tests.{ltb-false, not-false}
use Rattle.board.specs.Limits.{record_octets, record_room}
use Rattle.bits.specs.Octets.{Octets, line_bits, packed}
use Rattle.framing.specs.Delimitation.{Receiver}
use Rattle.framing.specs.Representation.{decode, encode, encode_area}
use Rattle.framing.specs.InnerReading.{IsWellFormed}
use Rattle.framing.proofs.Encoding.{encodes-back}
use Rattle.board.specs.declared.Link.{Link}
use Rattle.board.specs.With.{with_reception}
use Rattle.board.proofs.Ranges.{well-formed}
use Rattle.board.specs.InnerRanges.{SettingsInRange, WellFormed}
use Rattle.board.proofs.Past.{past-holds}
use Rattle.units.specs.Indications.{line_receiver}
use Rattle.reception.specs.declared.Passed.{Passed}
use Rattle.indications.specs.InnerWriting.{CallState, holding, indications_done}
use Rattle.reception.specs.Line.{board_after, line_happenings, line_records}
use Rattle.reception.specs.InnerWriting.{StateInRange, LineTaken}
use Rattle.input.specs.Refusals.{receive_number}
use Rattle.input.specs.InnerProgress.{progress_of}
use Rattle.input.specs.Receive.{ReceiveOutcome, board_of, received, receive_answer}
use Rattle.link.proofs.Faults.{none}
use Rattle.link.proofs.Answers.{done, fit_memory}

-- ---- what no fault says
pub record Receivable (l : Link) (octets pool descriptors records : List ℕ) : Type 0 where
  pub formed : WellFormed l
  pub octets-280 : length pool ≡ 280 * l.settings.k
  pub words-2 : length descriptors ≡ 2 * l.settings.k
  pub few : length octets ≤ 1024
  pub room : record_room * length octets ≤ length records

module _ (l : Link) (octets pool descriptors records : List ℕ) where
  pub receivable : receive_number l octets pool descriptors records ≡ 0 → Receivable l octets pool descriptors records
  unfolding receive_number
  receivable e =
      let n1 = none _ _ _ (λ z. omega arith) e in
      let n2 = none _ _ _ (λ z. omega arith) n1.1 in
      let n5 = none _ _ _ (λ z. omega arith) n2.1 in
      let n7 = none _ _ _ (λ z. omega arith) n5.1 in
      let n8 = none _ _ _ (λ z. omega arith) n7.1 in
      let fits = fit_memory _ _ _ (not-false _ n5.0) in
      record {
        formed = well-formed l (not-false _ n2.0) n1.0;
        octets-280 = fits.0;
        words-2 = fits.1;
        few = ltb-false 1024 (length octets) n7.0;
        room = ltb-false (length records) (record_room * length octets) n8.0;
      }

  module _ (r : Receivable l octets pool descriptors records) where
    s : SettingsInRange l.settings
    s = r.formed.settings

    pub ready : StateInRange l.settings (holding (progress_of l) pool descriptors records)
    ready =
        record {
          monitor = r.formed.monitor;
          fits =
              record { slots = s.k; octets = r.octets-280; words = r.words-2; next = r.formed.next; counter = r.formed.counter.0; reload = s.n.0 };
        }

    pub held : (length l.line.area ≡ 279) × Octets l.line.area → IsWellFormed l.settings.m l.line.state l.line.area
    held a =
        record {
          run≤7 = r.formed.run;
          room = r.formed.bits;
          idle = r.formed.idle;
          fits = r.formed.bits;
          zeroed =
              past-holds l.line.state.bits l.line.area a.1 r.formed.area
              ∙ ap (λ (n : ℕ). packed n (take l.line.state.bits (line_bits l.line.area))) a.0;
        }

  -- ---- the answer
  -- what the code gives, and what it has shown of a line that was taken
  abbrev given : Passed → List ℕ → List ℕ → List ℕ → List ℕ → ReceiveOutcome
  given p area' pool' descriptors' records' =
      record {
        number = 0;
        link = with_reception l (record { state = p.line; area = area' }) p.progress.units p.progress.supervision;
        count = p.progress.count;
        pool = pool';
        descriptors = descriptors';
        records = records';
      }

  abbrev Taken : Passed → List ℕ → List ℕ → List ℕ → List ℕ → Type 0
  Taken p area' pool' descriptors' records' =
      LineTaken l.settings l.line.state l.line.area octets (holding (progress_of l) pool descriptors records) p area' (holding p.progress pool' descriptors' records')

  is-received : (p : Passed) (area' pool' descriptors' records' : List ℕ) → l.settings.m ≤ 278
      → Taken p area' pool' descriptors' records' → given p area' pool' descriptors' records' ≡ received l octets pool descriptors records
  unfolding indications_done board_after line_happenings line_records
  is-received p area' pool' descriptors' records' m t =
      let g : Receiver = line_receiver l.settings.m (decode l.line.state l.line.area) octets in
      let w = t.done in
      let back = encodes-back l.settings.m p.line area' m t.held in
      let state : p.line ≡ encode g = back.0 ∙ ap encode t.receiver in
      let area : area' ≡ encode_area g = back.1 ∙ ap encode_area t.receiver in
      let count : p.progress.count ≡ length (line_happenings l.settings (board_of l pool descriptors) octets) =
      ap (λ (x : CallState). x.count) w ∙ zero-add (length (line_happenings l.settings (board_of l pool descriptors) octets)) in
      λ i.
      record {
        number = 0;
        link = with_reception l (record { state = state i; area = area i }) (w i).unit_memory.units (w i).supervision;
        count = count i;
        pool = (w i).unit_memory.pool;
        descriptors = (w i).unit_memory.descriptors;
        records = (w i).out;
      }

  -- ---- the code of a call
  module _ (n : 0 ≡ receive_number l octets pool descriptors records) where
    -- what taking a line asks
    pub may_take_state : SettingsInRange l.settings × StateInRange l.settings (holding (progress_of l) pool descriptors records)
    may_take_state = let ok = receivable (sym n) in (ok.formed.settings, ready ok)

    pub may_take_line : (length l.line.area ≡ 279) × Octets l.line.area
        → IsWellFormed l.settings.m l.line.state l.line.area
        × (record_octets * 0 + record_room * length octets ≤ length records)
        × (length octets ≤ 1024)
    may_take_line typed = let ok = receivable (sym n) in (held ok typed, omega (arith, ok.room), ok.few)

    pub receive_done : (p : Passed) (area' pool' descriptors' records' : List ℕ)
        → Taken p area' pool' descriptors' records' → given p area' pool' descriptors' records' ≡ receive_answer l octets pool descriptors records
    unfolding receive_answer
    receive_done p area' pool' descriptors' records' taken =
        is-received p area' pool' descriptors' records' (receivable (sym n)).formed.settings.m.1 taken ∙ sym (done _ _ _ (sym n))
