-- One line octet: what stands between two findings, and what each turn keeps of it.
use Prim.Native.Nat.{ℕ, ◌+◌, ◌*◌, ◌≤◌, ◌<◌}
use mathlib.Core.Path.{◌≡◌, refl, sym, ap, ap₂, subst, ◌∙◌}
use mathlib.Core.Bool.{Bool}
use mathlib.Core.List.{List, [], ◌∷◌, ◌++◌, map, append-nil}
use native.Mathlib.Omega.{arith}
use Rattle.std.proofs.Common.{Option, Some, None}
use Rattle.std.proofs.lemmas.List.{map-append}
use lib.ListN.{length, take, length-append}
use lib.Seq.{length-sets, length-take-le}
use Rattle.board.specs.InnerRanges.{SettingsInRange, MonitorInRange}
use Rattle.board.specs.Limits.{record_octets, record_room, monitor_limits}
use Rattle.bits.specs.Octets.{bits_of, line_bits, packed}
use Rattle.bits.proofs.Digits.{length-bits_of}
use Rattle.bits.proofs.Lines.{length-line_bits}
use Rattle.bits.proofs.Packing.{length-packed}
use Rattle.framing.specs.declared.Line.{Line}
use Rattle.framing.specs.declared.Found.{Found}
use Rattle.framing.specs.declared.Fed.{Fed}
use Rattle.framing.specs.Delimitation.{Receiver, Finding, closed, abort, long, flagged, receiver_after, findings}
use Rattle.framing.specs.InnerReading.{Reading, reading, IsWellFormed, Holds, shows, standing, FedTo}
use Rattle.framing.specs.Representation.{decode}
use Rattle.framing.proofs.Bound.{two-findings}
use Rattle.framing.proofs.Readings.{reading-after, reading-findings}
use Rattle.framing.proofs.Stops.{reading-single, reading-flag, reading-shorter}
use Rattle.records.specs.declared.Happening.{Happening}
use Rattle.board.specs.declared.Supervision.{Supervision}
use Rattle.records.specs.Record.{supervised, supervision_after, records_of}
use Rattle.records.specs.Promises.{FirstFive, none, more}
use Rattle.records.proofs.Range.{stays-in-range}
use Rattle.board.specs.declared.Settings.{Settings}
use Rattle.units.specs.Indications.{Indication, found, octet_end, octet_receiver, octet_indications, line_receiver, line_indications}
use Rattle.units.specs.Units.{UnitMemory, next_unit_memory, happens, unit_memory_after, happenings}
use Rattle.units.specs.InnerFit.{Fits}
use Rattle.units.specs.Promises.{AtMostLongest}
use Rattle.units.proofs.UnitStates.{fit-kept, found-one, one_at_most, first-fives, happenings-append}
use Rattle.indications.specs.declared.Progress.{Progress}
use Rattle.indications.specs.InnerWriting.{CallState, holding, indications_done, Able, Shown, area_after}
use Rattle.reception.specs.InnerWriting.{StateInRange, LineTaken}
use Rattle.indications.proofs.Recording.{indications-none, indications-append}

-- ---- what indications keep
-- each finding is one that the unit state can take
pub data AllAtMostLongest : List Indication → Type 0 where
  none_left : AllAtMostLongest []
  one_more : {m : Indication} {ms : List Indication} → AtMostLongest m → AllAtMostLongest ms → AllAtMostLongest (m ∷ ms)

five-append : (xs ys : List Happening) → FirstFive xs → FirstFive ys → FirstFive (xs ++ ys)
five-append [] ys none g = g
five-append (x ∷ xs) ys (more e f) g = more e (five-append xs ys f g)

pub happenings-five : (s : Settings) (ms : List Indication) (o : UnitMemory) → FirstFive (happenings s o ms)
unfolding happenings
happenings-five s [] o = none
happenings-five s (m ∷ ms) o = five-append (happens s o m) (happenings s (next_unit_memory s o m) ms) (first-fives s o m) (happenings-five s ms (next_unit_memory s o m))

unit-memory-fits : (s : Settings) (ms : List Indication) (o : UnitMemory) → AllAtMostLongest ms → Fits s o.units o.pool o.descriptors
    → Fits s (unit_memory_after s o ms).units (unit_memory_after s o ms).pool (unit_memory_after s o ms).descriptors
unfolding unit_memory_after
unit-memory-fits s [] o none_left f = f
unit-memory-fits s (m ∷ ms) o (one_more a r) f = unit-memory-fits s ms (next_unit_memory s o m) r (fit-kept s o m a f)

supervision-in-range : (s : Settings) (hs : List Happening) (w : Supervision) → SettingsInRange s → MonitorInRange s w.monitor → MonitorInRange s (supervision_after (monitor_limits s) w hs).monitor
unfolding supervision_after
supervision-in-range s [] w r i = i
supervision-in-range s (h ∷ hs) w r i = supervision-in-range s hs (supervised (monitor_limits s) w h) r (stays-in-range s w h r i)

found-count : (s : Settings) (fs : List Finding) (o : UnitMemory) → length (happenings s o (map found fs)) ≡ length fs
unfolding happenings
found-count s [] o = refl
found-count s (f ∷ fs) o =
    let e = found-one s o f in
    let r = found-count s fs (next_unit_memory s o (found f)) in
    omega (arith, length-append (happens s o (found f)) (happenings s (next_unit_memory s o (found f)) (map found fs)))

pub ready-kept : (s : Settings) (w : CallState) (ms : List Indication) → SettingsInRange s → AllAtMostLongest ms → StateInRange s w → StateInRange s (indications_done s w ms)
unfolding indications_done
ready-kept s w ms l a r =
    record {
      monitor = supervision-in-range s (happenings s w.unit_memory ms) w.supervision l r.monitor;
      fits = unit-memory-fits s ms w.unit_memory a r.fits;
    }

pub founds-count : (s : Settings) (w : CallState) (fs : List Finding) → (indications_done s w (map found fs)).count ≡ w.count + length fs
unfolding indications_done
founds-count s w fs = ap (λ (n : ℕ). w.count + n) (found-count s fs w.unit_memory)

pub indications-length : (s : Settings) (w : CallState) (ms : List Indication) → length (indications_done s w ms).out ≡ length w.out
unfolding indications_done
indications-length s w ms = length-sets w.out (record_octets * w.count) (records_of (monitor_limits s) w.supervision (happenings s w.unit_memory ms))

-- ---- between two findings of an octet
pub record Between (s : Settings) (line : Line) (area₀ : List ℕ) (octet : ℕ) (w : CallState) (area pool descriptors out : List ℕ) (cur : Line) (rest left : ℕ)
    (q : Progress) : Type 0 where
  pub few : left ≤ 8
  pub held : IsWellFormed s.m cur area
  pub settings : SettingsInRange s
  pub ready : StateInRange s (holding q pool descriptors out)
  pub receiver : receiver_after s.m (decode cur area) (bits_of left rest) ≡ octet_receiver s.m (decode line area₀) octet
  pub still : indications_done s (holding q pool descriptors out) (map found (findings s.m (decode cur area) (bits_of left rest)))
      ≡ indications_done s w (map found (findings s.m (decode line area₀) (bits_of 8 octet)))
  pub room : record_octets * (q.count + length (findings s.m (decode cur area) (bits_of left rest))) + record_octets ≤ length out
  pub same : length out ≡ length w.out

-- "three records ... is the most that one octet can bring"
pub at-start : (s : Settings) (line : Line) (area pool descriptors out : List ℕ) (octet : ℕ) (p : Progress)
    → Able s p pool descriptors out → IsWellFormed s.m line area → record_octets * p.count + record_room ≤ length out
    → Between s line area octet (holding p pool descriptors out) area pool descriptors out line octet 8 p
at-start s line area pool descriptors out octet p a h r =
    record {
      few = omega arith;
      held = h;
      settings = a.settings;
      ready = record { monitor = a.monitor; fits = a.fits };
      receiver = refl;
      still = refl;
      room = omega (arith, two-findings s.m (decode line area) octet a.settings.m.0);
      same = refl;
    }

-- ---- one turn
-- a closed unit is at most 8M bits long
closed-short : (M n : ℕ) (l : Line) (area : List ℕ) → M ≤ 278 → Holds M l (n + 7) area → n ≤ 2224
closed-short M n l area m h = omega (arith, h.fits)

-- nothing is shown where nothing is found
none-found : (fs : List Finding) → None ≡ shows fs → fs ≡ []
none-found [] e = refl
none-found (closed u ∷ fs) e = absurd (cc)
none-found (abort ∷ fs) e = absurd (cc)
none-found (long ∷ fs) e = absurd (cc)

all-allowed : (M : ℕ) (l : Line) (fs : List Finding) (area : List ℕ) → M ≤ 278 → length fs ≤ 1 → Holds M l (standing (shows fs) l.bits) area → AllAtMostLongest (map found fs)
all-allowed M l [] area m s h = none_left
all-allowed M l (closed u ∷ []) area m s h = one_more (closed-short M (length u) l area m h) none_left
all-allowed M l (abort ∷ []) area m s h = one_more {m = found abort} (omega arith) none_left
all-allowed M l (long ∷ []) area m s h = one_more {m = found long} (omega arith) none_left
all-allowed M l (f ∷ g ∷ fs) area m s h = absurd (omega arith)

-- the receiver once a finding is dealt with: after a closed unit nothing is gathered, so the cleared area holds it
record Kept (M : ℕ) (st : Receiver) (l : Line) (area : List ℕ) : Type 0 where
  pub is : decode l area ≡ st
  pub held : IsWellFormed M l area

cleared : (M n : ℕ) (l : Line) (area : List ℕ) → M ≤ 278 → Holds M l (n + 7) area → decode l area ≡ flagged → Kept M flagged l (packed 279 [])
cleared M n l area m h e =
    record {
      is = λ i. record { run = (e i).run; hunting = (e i).hunting; gathered = take (none i) (line_bits (packed 279 [])) };
      held =
          record {
            run≤7 = h.run≤7;
            room = h.room;
            idle = h.idle;
            fits = h.room;
            zeroed = ap (λ (k : ℕ). packed 279 (take k (line_bits (packed 279 [])))) (sym none);
          };
    }
  where
    none : l.bits ≡ 0
    none =
        let k : length area ≡ 279 = ap length h.zeroed ∙ length-packed 279 (take (n + 7) (line_bits area)) in
        let b : l.bits ≤ length (line_bits area) = omega (arith, h.room, length-line_bits area) in
        sym (length-take-le l.bits (line_bits area) b) ∙ ap (λ (st : Receiver). length st.gathered) e

kept : (M : ℕ) (fs : List Finding) (st : Receiver) (l : Line) (area : List ℕ) → M ≤ 278 → decode l area ≡ st
    → ((u : List Bool) (gs : List Finding) → fs ≡ closed u ∷ gs → st ≡ flagged) → Holds M l (standing (shows fs) l.bits) area
    → Kept M st l (area_after (shows fs) area)
kept M [] st l area m e g h = record { is = e; held = h }
kept M (closed u ∷ fs) st l area m e g h =
    let k = g u fs refl in
    subst (λ (x : Receiver). Kept M x l (packed 279 [])) (sym k) (cleared M (length u) l area m h (e ∙ k))
kept M (abort ∷ fs) st l area m e g h = record { is = e; held = h }
kept M (long ∷ fs) st l area m e g h = record { is = e; held = h }

module _ {s : Settings} {line : Line} {area₀ : List ℕ} {octet : ℕ} {w : CallState} {area pool descriptors out : List ℕ} {cur : Line} {rest left : ℕ} {q : Progress}
    (b : Between s line area₀ octet w area pool descriptors out cur rest left q) {fed : Fed} {area₁ : List ℕ}
    (f : FedTo s.m (reading s.m (decode cur area) (bits_of left rest)) fed area₁) where
  abbrev M : ℕ
  M = s.m

  abbrev g : Reading
  g = reading M (decode cur area) (bits_of left rest)

  abbrev here : CallState
  here = holding q pool descriptors out

  single : length g.found ≤ 1
  single = reading-single M (bits_of left rest) (decode cur area)

  shown : Shown g.found fed.step.found area₁
  shown = record { is = f.step.found; single = single; unit = f.step.unit }

  holds-shown : Holds M fed.step.line (standing (shows g.found) fed.step.line.bits) area₁
  holds-shown = subst (λ (x : Option Found). Holds M fed.step.line (standing x fed.step.line.bits) area₁) f.step.found f.step.holds

  pub less : 0 < left → fed.left < left
  less h =
      let a : length (bits_of left rest) ≡ left = length-bits_of left rest in
      let c : length (bits_of fed.left fed.octet) ≡ fed.left = length-bits_of fed.left fed.octet in
      let r : length (bits_of fed.left fed.octet) ≡ length g.rest = ap length f.rest in
      omega (arith, reading-shorter M (bits_of left rest) (decode cur area) (omega arith))

  module _ (q' : Progress) (pool' descriptors' out' area' : List ℕ)
      (e : holding q' pool' descriptors' out' ≡ indications_done s here (map found g.found)) (ea : area' ≡ area_after fed.step.found area₁) where
    after_kept : Kept M g.state fed.step.line area'
    after_kept =
        subst (Kept M g.state fed.step.line) (sym (ea ∙ ap (λ (x : Option Found). area_after x area₁) f.step.found))
        (kept M g.found g.state fed.step.line area₁ b.settings.m.1 f.step.state
        (λ u gs x. reading-flag M (bits_of left rest) (decode cur area) u gs x) holds-shown)

    to-come : findings M (decode fed.step.line area') (bits_of fed.left fed.octet) ≡ findings M g.state g.rest
    to-come = ap₂ (λ (x : Receiver) (y : List Bool). findings M x y) after_kept.is f.rest

    all-findings : g.found ++ findings M (decode fed.step.line area') (bits_of fed.left fed.octet) ≡ findings M (decode cur area) (bits_of left rest)
    all-findings = ap (λ (x : List Finding). g.found ++ x) to-come ∙ reading-findings M (bits_of left rest) (decode cur area)

    abbrev later : List Indication
    later = map found (findings M (decode fed.step.line area') (bits_of fed.left fed.octet))

    all_done : indications_done s (holding q' pool' descriptors' out') later ≡ indications_done s here (map found (findings M (decode cur area) (bits_of left rest)))
    all_done =
        ap (λ (x : CallState). indications_done s x later) e
        ∙ sym (indications-append s here (map found g.found) later (happenings-five s (map found g.found) here.unit_memory))
        ∙ ap (indications_done s here) (sym (map-append found g.found (findings M (decode fed.step.line area') (bits_of fed.left fed.octet))) ∙ ap (map found) all-findings)

    same_out : length out' ≡ length out
    same_out = ap (λ (x : CallState). length x.out) e ∙ indications-length s here (map found g.found)

    counted : q'.count ≡ q.count + length g.found
    counted = ap (λ (x : CallState). x.count) e ∙ founds-count s here g.found

    turn : Between s line area₀ octet w area' pool' descriptors' out' fed.step.line fed.octet fed.left q'
    turn =
        record {
          few = f.few;
          held = after_kept.held;
          settings = b.settings;
          ready =
              subst (StateInRange s) (sym e)
              (ready-kept s here (map found g.found) b.settings (all-allowed M fed.step.line g.found area₁ b.settings.m.1 single holds-shown) b.ready);
          receiver =
              ap₂ (λ (x : Receiver) (y : List Bool). receiver_after M x y) after_kept.is f.rest
              ∙ reading-after M (bits_of left rest) (decode cur area) ∙ b.receiver;
          still = all_done ∙ b.still;
          room =
              let n : length g.found + length (findings M (decode fed.step.line area') (bits_of fed.left fed.octet))
              ≡ length (findings M (decode cur area) (bits_of left rest)) =
              sym (length-append g.found (findings M (decode fed.step.line area') (bits_of fed.left fed.octet))) ∙ ap length all-findings in
              omega (arith, b.room, counted, same_out);
          same = same_out ∙ b.same;
        }

  -- what was found, if anything, is dealt with
  pub taken-turn : (q' : Progress) (pool' descriptors' out' area' : List ℕ)
      → ((fs : List Finding) → Shown fs fed.step.found area₁ → holding q' pool' descriptors' out' ≡ indications_done s here (map found fs))
      → area' ≡ area_after fed.step.found area₁
      → Between s line area₀ octet w area' pool' descriptors' out' fed.step.line fed.octet fed.left q'
  taken-turn q' pool' descriptors' out' area' d ea = turn q' pool' descriptors' out' area' (d g.found shown) ea

-- ---- the end of the octet
pub single-octet : (M : ℕ) (st : Receiver) (octet : ℕ) → line_indications M st (octet ∷ []) ≡ octet_indications M st octet
unfolding line_indications
single-octet M st octet = append-nil (octet_indications M st octet)

-- "At most three records come from one line octet."
pub three : (s : Settings) (M : ℕ) (st : Receiver) (octet : ℕ) (o : UnitMemory) → 7 ≤ M → length (happenings s o (octet_indications M st octet)) ≤ 3
unfolding happenings
three s M st octet o h =
    let fs = findings M st (bits_of 8 octet) in
    let a : length (happenings s o (octet_indications M st octet)) ≡ length (happenings s o (map found fs)) + length (happenings s (unit_memory_after s o (map found fs)) (octet_end ∷ [])) =
    ap length (happenings-append s (map found fs) (octet_end ∷ []) o)
    ∙ length-append (happenings s o (map found fs)) (happenings s (unit_memory_after s o (map found fs)) (octet_end ∷ [])) in
    let b : length (happenings s (unit_memory_after s o (map found fs)) (octet_end ∷ [])) ≡ length (happens s (unit_memory_after s o (map found fs)) octet_end) =
    ap length (append-nil (happens s (unit_memory_after s o (map found fs)) octet_end)) in
    omega (arith, found-count s fs o, one_at_most s (unit_memory_after s o (map found fs)) octet_end, two-findings M st octet h)

three-more : (s : Settings) (M : ℕ) (st : Receiver) (octet : ℕ) (w : CallState) → 7 ≤ M → (indications_done s w (octet_indications M st octet)).count ≤ w.count + 3
unfolding indications_done
three-more s M st octet w h = omega (arith, three s M st octet w.unit_memory h)

module _ {s : Settings} {line : Line} {area₀ : List ℕ} {octet : ℕ} {w : CallState} {area pool descriptors out : List ℕ} {cur : Line} {rest left : ℕ} {q : Progress}
    (b : Between s line area₀ octet w area pool descriptors out cur rest left q) (z : left ≡ 0) where
  no_bits : bits_of left rest ≡ []
  unfolding bits_of
  no_bits = ap (λ (n : ℕ). bits_of n rest) z

  pub done-bits : holding q pool descriptors out ≡ indications_done s w (map found (findings s.m (decode line area₀) (bits_of 8 octet)))
  done-bits =
      sym (indications-none s (holding q pool descriptors out))
      ∙ ap (λ (x : List Bool). indications_done s (holding q pool descriptors out) (map found (findings s.m (decode cur area) x))) (sym no_bits) ∙ b.still

  pub ended : (r : Progress) (out' : List ℕ) → holding r pool descriptors out' ≡ indications_done s (holding q pool descriptors out) (octet_end ∷ [])
      → LineTaken s line area₀ (octet ∷ []) w (record { line = cur; progress = r }) area (holding r pool descriptors out')
  unfolding line_receiver
  ended r out' e =
      record {
        receiver = ap (receiver_after s.m (decode cur area)) (sym no_bits) ∙ b.receiver;
        held = b.held;
        done = whole ∙ ap (indications_done s w) (sym (single-octet s.m (decode line area₀) octet));
        ready =
            subst (StateInRange s) (sym e)
            (ready-kept s (holding q pool descriptors out) (octet_end ∷ []) b.settings (one_more {m = octet_end} (omega arith) none_left) b.ready);
        few = subst (λ (x : CallState). x.count ≤ w.count + 3) (sym whole) (three-more s s.m (decode line area₀) octet w b.settings.m.0);
      }
    where
      whole : holding r pool descriptors out' ≡ indications_done s w (octet_indications s.m (decode line area₀) octet)
      whole =
          e ∙ ap (λ (x : CallState). indications_done s x (octet_end ∷ [])) done-bits
          ∙ sym (indications-append s w (map found (findings s.m (decode line area₀) (bits_of 8 octet))) (octet_end ∷ [])
          (happenings-five s (map found (findings s.m (decode line area₀) (bits_of 8 octet))) w.unit_memory))
