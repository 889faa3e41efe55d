-- Content with its check octets, sent and read back.
use Prim.Native.Nat.{ℕ, ◌+◌, ◌*◌, ◌%◌, ◌≤◌}
use mathlib.Core.Path.{◌≡◌, sym, ap, ◌∙◌}
use mathlib.Core.List.{List, [], ◌∷◌, ◌++◌, append-nil}
use native.Mathlib.Omega.{arith}
use borrow.Author.Tests.{le-ltb, eq-eqb}
use lib.ListN.{length}
use Rattle.bits.specs.Octets.{line_bits, whole_octets}
use Rattle.bits.proofs.Machines.{run-append, outs-append}
use Rattle.bits.specs.Format.{fill_in_octets}
use Rattle.bits.proofs.Lines.{octets-append}
use Rattle.bits.proofs.Whole.{whole-line}
use Rattle.fcs.specs.Check.{check_bits, check_of, good_residue, check_octets}
use Rattle.fcs.proofs.Residue.{good-residue, check-are-octets}
use Rattle.framing.specs.Delimitation.{Receiver, Finding, closed, flagged, next, finds, receiver_after, findings}
use Rattle.framing.specs.Verdict.{verdict_of}
use Rattle.sending.specs.Stuffing.{unit_bits, unit_line}
use Rattle.sending.specs.Packing.{waiting}
use Rattle.sending.specs.Promises.{ReadBackSent, SentGood, SentOctets}
use Rattle.sending.proofs.Puttings.{nothing-lost}
use Rattle.sending.proofs.Stuffs.{unit-bits}
use Rattle.sending.proofs.ReadBack.{read_back}

-- a unit of content and its check octets, sent after a flag, is read back
pub read-back-unit : (M : ℕ) (content : List ℕ) → length content + 2 ≤ M
    → (receiver_after M flagged (unit_line content) ≡ flagged) × (findings M flagged (unit_line content) ≡ closed (unit_bits content) ∷ [])
unfolding unit_line
read-back-unit M content h = read_back M (unit_bits content) (omega (arith, unit-bits content)) (omega (arith, unit-bits content))

unit-residue : (content : List ℕ) → check_bits 0xffff (unit_bits content) ≡ good_residue
unfolding unit_bits check_of
unit-residue content = good-residue content

-- it is good, from a header of content on
pub sent-good : SentGood
unfolding verdict_of
sent-good F content h =
    let l : length (unit_bits content) % 8 ≡ 0 = omega (arith, unit-bits content) in
    rw (le-ltb (length (unit_bits content)) (fill_in_octets F * 8) (omega (arith, unit-bits content)), eq-eqb (length (unit_bits content) % 8) 0 l, eq-eqb (check_bits 0xffff (unit_bits content)) good_residue (unit-residue content))

-- and its octets are the content and the check octets
pub sent-octets : SentOctets
unfolding unit_bits
sent-octets content o =
    ap whole_octets (sym (append-nil (line_bits (content ++ check_octets content))))
    ∙ whole-line (content ++ check_octets content) [] (octets-append content (check_octets content) o (check-are-octets content)) (omega arith)

pub read-back-sent : ReadBackSent
read-back-sent M t content s h e =
    let all = (nothing-lost t (unit_line content)).0 in
    let back = read-back-unit M content h in (
      ap (receiver_after M s) all ∙ run-append (next M) (waiting t) (unit_line content) s
          ∙ ap (λ (x : Receiver). receiver_after M x (unit_line content)) e ∙ back.0,
      ap (findings M s) all ∙ outs-append (next M) (finds M) (waiting t) (unit_line content) s
          ∙ ap (λ (x : Receiver). findings M s (waiting t) ++ findings M x (unit_line content)) e
          ∙ ap (λ (fs : List Finding). findings M s (waiting t) ++ fs) back.1,
    )
