-- The kinds of a line's records are those of what it brings; and where no octets are counted, those of what its bits find.
use Prim.Native.Nat.{ℕ}
use mathlib.Core.Path.{◌≡◌, refl, sym, ap, ap₂, subst, ◌∙◌}
use mathlib.Core.Bool.{Bool, true, false, and-false}
use mathlib.Core.List.{List, [], ◌∷◌, ◌++◌, map}
use lib.ListN.{length}
use lib.Seq.{drop_at}
use lib.Dec.{eqb}
use Rattle.bits.specs.Format.{basic}
use Rattle.bits.specs.Octets.{line_bits, whole_octets}
use Rattle.framing.specs.declared.Verdict.{Verdict}
use Rattle.framing.specs.declared.Verdict.TheVariants.{Short, CheckWrong}
use Rattle.framing.specs.Delimitation.{Finding, closed, abort, long, findings}
use Rattle.framing.specs.Verdict.{verdict_of}
use Rattle.memory.specs.declared.Status.TheVariants as statuses
use Rattle.monitor.specs.declared.Limits.{Limits}
use Rattle.board.specs.declared.Settings.{Settings}
use Rattle.board.specs.declared.Supervision.{Supervision}
use Rattle.board.specs.declared.Link.{Link}
use Rattle.board.specs.Limits.{record_octets, monitor_limits}
use Rattle.records.specs.declared.RecordKind.TheVariants as kinds-of
use Rattle.records.specs.declared.Happening.{Happening}
use Rattle.records.specs.Kinds.{kind_number}
use Rattle.records.specs.Promises.{FirstFive, more}
use Rattle.records.specs.Happening.{noted}
use Rattle.records.specs.Record.{record_of, supervised, recorded, records_of}
use Rattle.records.proofs.Supervising.{record-size}
use Rattle.units.specs.Indications.{Indication, found, octet_end, line_indications}
use Rattle.units.specs.Units.{UnitMemory, Effect, effect, is_free, ticks, tick_of, by_verdict, short_taken, good_unit, errored_unit, closed_unit, octet_effect, effect_of, next_unit_memory, happenings}
use Rattle.reception.specs.Line.{Board, line_happenings, line_records}
use Rattle.reception.proofs.Octets.{happenings-five}
use Rattle.input.specs.Receive.{board_of, receive_answer}
use Rattle.input.proofs.Receiving.{receivable}
use Rattle.input.proofs.Cutting.{answered, wrote}
use Rattle.readback.proofs.Handing.{found_in, found-line}
use Rattle.cases.specs.Cases.{firsts, kinds}

abbrev pub kind_of : Happening → ℕ
kind_of h = kind_number h.kind

-- ---- octet 0 of each record
firsts-are : (l : Limits) (hs : List Happening) (w : Supervision) → FirstFive hs → firsts (length hs) (records_of l w hs) ≡ map kind_of hs
unfolding firsts records_of record_of
firsts-are l [] w f = refl
firsts-are l (h ∷ hs) w (more e f) =
    ap {B = List ℕ} (λ (rs : List ℕ). kind_of h ∷ firsts (length hs) rs)
    (drop_at (recorded l w h) (records_of l (supervised l w h) hs) record_octets (record-size h (noted l w h).supervision.monitor.count (noted l w h).raised e))
    ∙ ap {B = List ℕ} (λ (ks : List ℕ). kind_of h ∷ ks) (firsts-are l hs (supervised l w h) f)

-- what a line brings, and the octets 0 of its records
kinds-are : (s : Settings) (b : Board) (line : List ℕ) → firsts (length (line_happenings s b line)) (line_records s b line) ≡ map kind_of (line_happenings s b line)
unfolding line_records line_happenings
kinds-are s b line =
    firsts-are (monitor_limits s) (line_happenings s b line) b.supervision (happenings-five s (line_indications s.m b.receiver line) b.unit_memory)

-- so a call answered 0 writes records of those kinds
pub call-kinds : (l : Link) (line pool descriptors records : List ℕ) → (receive_answer l line pool descriptors records).number ≡ 0
    → kinds (receive_answer l line pool descriptors records) ≡ map kind_of (line_happenings l.settings (board_of l pool descriptors) line)
call-kinds l line pool descriptors records z =
    let a = answered l line pool descriptors records z in
    let b = board_of l pool descriptors in
    ap kinds a.1
    ∙ ap (firsts (length (line_happenings l.settings b line))) (wrote l line pool descriptors records (receivable l line pool descriptors records a.0))
    ∙ kinds-are l.settings b line

-- ---- findings, with the octets not counted
abbrev pub Off : UnitMemory → Type 0
Off o = o.units.counting.on ≡ false

-- an effect that is one thing, of this kind, after which octets are still not counted
pub record OneThing (e : Effect) (kind : ℕ) : Type 0 where
  pub happening : Happening
  pub is : e.happenings ≡ happening ∷ []
  pub same : kind_of happening ≡ kind
  pub still : Off e.unit_memory

abbrev pub OfKind : Settings → Finding → ℕ → Type 0
OfKind s f kind = (o : UnitMemory) → Off o → OneThing (effect_of s o (found f)) kind

pub data Kinds (s : Settings) : List Finding → List ℕ → Type 0 where
  nothing : Kinds s [] []
  one_more : {f : Finding} {fs : List Finding} {kind : ℕ} {ks : List ℕ} → OfKind s f kind → Kinds s fs ks → Kinds s (f ∷ fs) (kind ∷ ks)

module _ (s : Settings) (itu : s.itu ≡ false) (orn : s.orn ≡ false) where
  pub brings-abort : OfKind s abort 7
  unfolding effect_of
  brings-abort o off = record { happening = _; is = refl; same = refl; still = rw itu off }

  pub brings-long : OfKind s long 6
  unfolding effect_of
  brings-long o off = record { happening = _; is = refl; same = refl; still = rw itu off }

  -- a closed unit of this verdict
  abbrev judged : UnitMemory → List Bool → Verdict → Effect
  judged o u v =
      by_verdict v (effect o ((short_taken o.units (whole_octets u)).happening ∷ [])) (errored_unit s o statuses.NotWhole kinds-of.NotWhole (whole_octets u))
      (errored_unit s o statuses.CheckWrong kinds-of.CheckWrong (whole_octets u)) (good_unit s o (whole_octets u))

  by-verdict : (o : UnitMemory) (u : List Bool) (v : Verdict) (kind : ℕ) → verdict_of basic u ≡ v → OneThing (judged o u v) kind
      → OneThing (effect_of s o (found (closed u))) kind
  unfolding effect_of closed_unit
  by-verdict o u v kind e b = subst (λ (x : Verdict). OneThing (judged o u x) kind) (sym e) b

  pub brings-short : (u : List Bool) → verdict_of basic u ≡ Short → OfKind s (closed u) 5
  brings-short u v o off = by-verdict o u Short 5 v (record { happening = _; is = refl; same = refl; still = off })

  -- handed over or lost, by the slot
  wrong : (o : UnitMemory) (octets : List ℕ) (free : Bool) → is_free o ≡ free → Off o
      → OneThing (errored_unit s o statuses.CheckWrong kinds-of.CheckWrong octets) 3
  unfolding errored_unit
  wrong o octets true e off = rw e (record { happening = _; is = refl; same = refl; still = off })
  wrong o octets false e off = rw (e, orn) (record { happening = _; is = refl; same = refl; still = off })

  pub brings-wrong : (u : List Bool) → verdict_of basic u ≡ CheckWrong → OfKind s (closed u) 3
  brings-wrong u v o off = by-verdict o u CheckWrong 3 v (wrong o (whole_octets u) (is_free o) refl off)

  -- ---- indications
  kinds-over : (ms : List Indication) (o : UnitMemory) (fs : List Finding) (ks : List ℕ) → Kinds s fs ks → Off o → found_in ms ≡ fs
      → map kind_of (happenings s o ms) ≡ ks
  unfolding happenings effect_of octet_effect
  kinds-over [] o [] ks nothing off e = refl
  kinds-over [] o (f ∷ fs) ks k off e = cc
  kinds-over (octet_end ∷ ms) o fs ks k off e =
      let quiet : ticks (eqb o.units.counting.left 1) o.units.counting.on (tick_of o.units.counts.good) ≡ [] = rw (off, and-false) in
      ap (λ (hs : List Happening). map kind_of (hs ++ happenings s (octet_effect s o).unit_memory ms)) quiet
      ∙ kinds-over ms (octet_effect s o).unit_memory fs ks k off e
  kinds-over (found g ∷ ms) o [] ks k off e = cc
  kinds-over (found g ∷ ms) o (f ∷ fs) [] k off e = elim k [ ]
  kinds-over (found g ∷ ms) o (f ∷ fs) (kind ∷ ks) (one_more b k) off e =
      let g-is : f ≡ g = cc in
      let rest : found_in ms ≡ fs = cc in
      let w = b o off in
      subst (λ (x : Finding). map kind_of (happenings s o (found x ∷ ms)) ≡ kind ∷ ks) g-is
      (ap (λ (hs : List Happening). map kind_of (hs ++ happenings s (next_unit_memory s o (found f)) ms)) w.is
      ∙ ap₂ {C = List ℕ} (λ x xs. x ∷ xs) w.same (kinds-over ms (next_unit_memory s o (found f)) fs ks k w.still rest))

  pub found-kinds : (b : Board) (line : List ℕ) (fs : List Finding) (ks : List ℕ) → Kinds s fs ks → Off b.unit_memory
      → findings s.m b.receiver (line_bits line) ≡ fs → map kind_of (line_happenings s b line) ≡ ks
  unfolding line_happenings
  found-kinds b line fs ks k off e =
      kinds-over (line_indications s.m b.receiver line) b.unit_memory fs ks k off (found-line s.m line b.receiver ∙ e)
