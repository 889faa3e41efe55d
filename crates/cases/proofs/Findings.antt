-- P4 to P7: lines whose records are decided by what their bits find.
use Prim.Native.Nat.{ℕ}
use mathlib.Core.Path.{◌≡◌, refl, ap, ◌∙◌}
use mathlib.Core.Bool.{false}
use mathlib.Core.List.{List, [], ◌∷◌, ◌++◌}
use lib.ListN.{replicate}
use Rattle.bits.specs.Format.{basic, most_longest}
use Rattle.bits.specs.Octets.{bits_of, line_bits}
use Rattle.bits.proofs.Machines.{outs-append}
use Rattle.framing.specs.declared.Verdict.TheVariants.{CheckWrong}
use Rattle.framing.specs.Delimitation.{Receiver, Finding, closed, abort, long, new_receiver, flagged, step_bit, next, finds, findings}
use Rattle.framing.specs.Verdict.{verdict_of}
use Rattle.framing.specs.Cases.{found_in, zeros, between_flags}
use Rattle.framing.proofs.Cases as framing
use Rattle.board.specs.declared.Settings.{Settings}
use Rattle.board.specs.Rows.{row_of, table, row_settings}
use Rattle.link.specs.Commands.{obeyed}
use Rattle.input.specs.Receive.{board_of}
use Rattle.cases.specs.Cases.{Brings}
use Rattle.cases.proofs.Boards.{started, sixteen, line_taken, line-kinds}
use Rattle.cases.proofs.RecordKinds.{OfKind, Kinds, nothing, one_more, brings-abort, brings-long, brings-short, brings-wrong, found-kinds}

abbrev S : Settings
S = row_settings 1 16 false

-- ---- findings and their kinds are the records' kinds
by-findings : (line : List ℕ) (fs : List Finding) (ks : List ℕ) → found_in (line_bits line) ≡ fs → Kinds S fs ks → Brings line ks
unfolding obeyed row_of table
by-findings line fs ks e k pool descriptors records is = (
  line_taken 16 false (sixteen false) line pool descriptors records is,
  line-kinds 16 false (sixteen false) line pool descriptors records is
      ∙ found-kinds S refl refl (board_of (started S) pool descriptors) line fs ks k refl e,
)

by_one : (line : List ℕ) (f : Finding) (kind : ℕ) → found_in (line_bits line) ≡ f ∷ [] → OfKind S f kind → Brings line (kind ∷ [])
by_one line f kind e k = by-findings line (f ∷ []) (kind ∷ []) e (one_more k nothing)

-- ---- P4, P5
pub row-4 : Brings (0x7e ∷ 0x7e ∷ []) []
row-4 = by-findings (0x7e ∷ 0x7e ∷ []) [] [] framing.p4 nothing

pub row-5 : Brings (0x7e ∷ 0xff ∷ []) (7 ∷ [])
row-5 = by_one (0x7e ∷ 0xff ∷ []) abort 7 framing.p5 (brings-abort S refl refl)

-- ---- P6
found-39 : found_in (line_bits (126 ∷ 0 ∷ 0 ∷ 0 ∷ 0 ∷ 0 ∷ 191 ∷ [])) ≡ closed (zeros 39) ∷ []
unfolding step_bit line_bits bits_of
found-39 = refl

found-40 : found_in (line_bits (126 ∷ 0 ∷ 0 ∷ 0 ∷ 0 ∷ 0 ∷ 126 ∷ [])) ≡ closed (zeros 40) ∷ []
unfolding line_bits bits_of
found-40 = (framing.p6).2

pub row-39 : Brings (126 ∷ 0 ∷ 0 ∷ 0 ∷ 0 ∷ 0 ∷ 191 ∷ []) (5 ∷ [])
row-39 = by_one (126 ∷ 0 ∷ 0 ∷ 0 ∷ 0 ∷ 0 ∷ 191 ∷ []) (closed (zeros 39)) 5 found-39 (brings-short S refl refl (zeros 39) (framing.p6).1)

pub row-40 : Brings (126 ∷ 0 ∷ 0 ∷ 0 ∷ 0 ∷ 0 ∷ 126 ∷ []) (3 ∷ [])
row-40 = by_one (126 ∷ 0 ∷ 0 ∷ 0 ∷ 0 ∷ 0 ∷ 126 ∷ []) (closed (zeros 40)) 3 found-40 (brings-wrong S refl refl (zeros 40) (framing.p6).3)

-- ---- P7
found-2224 : found_in (line_bits (126 ∷ replicate 278 0 ++ (126 ∷ []))) ≡ closed (zeros 2224) ∷ []
unfolding line_bits bits_of
found-2224 = framing.p7-closes

wrong-2224 : verdict_of basic (zeros 2224) ≡ CheckWrong
unfolding verdict_of
wrong-2224 = refl

-- seven bits come after the flag
after-flag : findings (most_longest basic) flagged (zeros 7) ≡ []
unfolding step_bit
after-flag = refl

found-2225 : found_in (line_bits (126 ∷ replicate 278 0 ++ (252 ∷ 0 ∷ []))) ≡ long ∷ []
unfolding line_bits bits_of
found-2225 =
    let M : ℕ = most_longest basic in
    outs-append (next M) (finds M) (between_flags 2225) (zeros 7) new_receiver
    ∙ ap (λ (r : Receiver). found_in (between_flags 2225) ++ findings M r (zeros 7)) (framing.p7-long).1
    ∙ ap (λ (fs : List Finding). fs ++ findings M flagged (zeros 7)) (framing.p7-long).0
    ∙ ap {B = List Finding} (λ fs. long ∷ fs) after-flag

pub row-2224 : Brings (126 ∷ replicate 278 0 ++ (126 ∷ [])) (3 ∷ [])
row-2224 = by_one (126 ∷ replicate 278 0 ++ (126 ∷ [])) (closed (zeros 2224)) 3 found-2224 (brings-wrong S refl refl (zeros 2224) wrong-2224)

pub row-2225 : Brings (126 ∷ replicate 278 0 ++ (252 ∷ 0 ∷ [])) (6 ∷ [])
row-2225 = by_one (126 ∷ replicate 278 0 ++ (252 ∷ 0 ∷ [])) long 6 found-2225 (brings-long S refl refl)
