-- Happenings noted and recorded one by one.
use Prim.Native.Nat.{ℕ, ◌+◌, ◌*◌}
use mathlib.Core.Path.{◌≡◌, refl, sym, ap, ap₂, ◌∙◌}
use mathlib.Core.List.{List, [], ◌∷◌, ◌++◌, append-nil}
use native.Mathlib.Nat.{add-zero}
use native.Mathlib.Omega.{arith}
use lib.ListN.{length, length-append}
use lib.Seq.{sets}
use Rattle.board.specs.Limits.{record_octets, monitor_limits}
use Rattle.records.specs.declared.Happening.{Happening}
use Rattle.board.specs.declared.Supervision.{Supervision}
use Rattle.records.specs.Record.{supervised, recorded, supervision_after, records_of}
use Rattle.records.specs.Promises.{FirstFive}
use Rattle.records.proofs.Supervising.{supervision-append, records-append, records-length}
use Rattle.bits.proofs.Writing.{sets-append}
use Rattle.board.specs.declared.Settings.{Settings}
use Rattle.units.specs.declared.Taken.{Taken}
use Rattle.units.specs.Indications.{Indication}
use Rattle.units.proofs.UnitStates.{unit-memory-append, happenings-append}
use Rattle.monitor.specs.declared.Limits.{Limits}
use Rattle.units.specs.Units.{UnitMemory, unit_memory, Effect, effect, effect_of, unit_memory_after, happenings}
use Rattle.indications.specs.declared.Progress.{Progress}
use Rattle.indications.specs.InnerWriting.{CallState, holding, indications_done, NotedAndRecorded}

single-supervision : (l : Limits) (w : Supervision) (h : Happening) → supervision_after l w (h ∷ []) ≡ supervised l w h
unfolding supervision_after
single-supervision l w h = refl

single-record : (l : Limits) (w : Supervision) (h : Happening) → records_of l w (h ∷ []) ≡ recorded l w h
unfolding records_of
single-record l w h = append-nil (recorded l w h)

-- ---- indications: none, one with one happening, and two parts
module _ (s : Settings) (w : CallState) where
  pub indications-none : indications_done s w [] ≡ w
  unfolding indications_done unit_memory_after happenings supervision_after records_of
  indications-none = ap {B = CallState} (λ (n : ℕ). record { unit_memory = w.unit_memory; supervision = w.supervision; out = w.out; count = n }) (add-zero w.count)

  -- an indication from which one thing happens, put down as it is
  pub indication-one : (m : Indication) (pool descriptors : List ℕ) (taken : Taken) (p : Progress) (out' : List ℕ)
      → effect (unit_memory taken.units pool descriptors) (taken.happening ∷ []) ≡ effect_of s w.unit_memory m
      → NotedAndRecorded s taken w.supervision w.count w.out p out'
      → holding p pool descriptors out' ≡ indications_done s w (m ∷ [])
  unfolding indications_done unit_memory_after happenings
  indication-one m pool descriptors taken p out' e q =
      one taken.happening p q.progress out' q.area ∙ ap whole e
    where
      l : Limits
      l = monitor_limits s

      whole : Effect → CallState
      whole x =
          record {
            unit_memory = x.unit_memory;
            supervision = supervision_after l w.supervision (x.happenings ++ []);
            out = sets w.out (record_octets * w.count) (records_of l w.supervision (x.happenings ++ []));
            count = w.count + length (x.happenings ++ []);
          }

      one : (h : Happening) (p : Progress) → p ≡ record { units = taken.units; supervision = supervised l w.supervision h; count = w.count + 1 }
          → (out' : List ℕ) → out' ≡ sets w.out (record_octets * w.count) (recorded l w.supervision h)
          → holding p pool descriptors out' ≡ whole (effect (unit_memory taken.units pool descriptors) (h ∷ []))
      one h p ep out' eo =
          ap₂ (λ (x : Progress) (y : List ℕ). holding x pool descriptors y) ep
          (eo ∙ ap (sets w.out (record_octets * w.count)) (sym (single-record l w.supervision h)))
          ∙ ap {B = CallState}
          (λ (x : Supervision).
          record {
            unit_memory = unit_memory taken.units pool descriptors;
            supervision = x;
            out = sets w.out (record_octets * w.count) (records_of l w.supervision (h ∷ []));
            count = w.count + 1;
          })
          (sym (single-supervision l w.supervision h))

  -- an indication from which nothing happens
  pub indication-quiet : (m : Indication) (o : UnitMemory) → effect o [] ≡ effect_of s w.unit_memory m
      → record { unit_memory = o; supervision = w.supervision; out = w.out; count = w.count } ≡ indications_done s w (m ∷ [])
  unfolding indications_done unit_memory_after happenings supervision_after records_of
  indication-quiet m o e =
      ap {B = CallState} (λ (n : ℕ). record { unit_memory = o; supervision = w.supervision; out = w.out; count = n }) (sym (add-zero w.count))
      ∙ ap {B = CallState}
      (λ (x : Effect).
      record {
        unit_memory = x.unit_memory;
        supervision = supervision_after (monitor_limits s) w.supervision (x.happenings ++ []);
        out = sets w.out (record_octets * w.count) (records_of (monitor_limits s) w.supervision (x.happenings ++ []));
        count = w.count + length (x.happenings ++ []);
      })
      e

  -- indications that come in two parts
  pub indications-append : (ms ns : List Indication) → FirstFive (happenings s w.unit_memory ms) → indications_done s w (ms ++ ns) ≡ indications_done s (indications_done s w ms) ns
  unfolding indications_done
  indications-append ms ns f =
      ap₂ (λ (o : UnitMemory) (hs : List Happening). done o hs) (unit-memory-append s ms ns w.unit_memory) (happenings-append s ms ns w.unit_memory)
      ∙ parts (happenings s w.unit_memory ms) (happenings s (unit_memory_after s w.unit_memory ms) ns) f
    where
      l : Limits
      l = monitor_limits s

      done : UnitMemory → List Happening → CallState
      done o hs =
          record {
            unit_memory = o;
            supervision = supervision_after l w.supervision hs;
            out = sets w.out (record_octets * w.count) (records_of l w.supervision hs);
            count = w.count + length hs;
          }

      parts : (xs ys : List Happening) → FirstFive xs
          → done (unit_memory_after s (unit_memory_after s w.unit_memory ms) ns) (xs ++ ys)
          ≡ record {
            unit_memory = unit_memory_after s (unit_memory_after s w.unit_memory ms) ns;
            supervision = supervision_after l (supervision_after l w.supervision xs) ys;
            out = sets (sets w.out (record_octets * w.count) (records_of l w.supervision xs)) (record_octets * (w.count + length xs)) (records_of l (supervision_after l w.supervision xs) ys);
            count = w.count + length xs + length ys;
          }
      parts xs ys g =
          let c : w.count + length (xs ++ ys) ≡ w.count + length xs + length ys = omega (arith, length-append xs ys) in
          let k : record_octets * w.count + length (records_of l w.supervision xs) ≡ record_octets * (w.count + length xs) = omega (arith, records-length l w.supervision xs g) in
          let o : sets w.out (record_octets * w.count) (records_of l w.supervision (xs ++ ys))
          ≡ sets (sets w.out (record_octets * w.count) (records_of l w.supervision xs)) (record_octets * (w.count + length xs)) (records_of l (supervision_after l w.supervision xs) ys) =
          ap (sets w.out (record_octets * w.count)) (records-append l w.supervision xs ys)
          ∙ sets-append (records_of l w.supervision xs) (records_of l (supervision_after l w.supervision xs) ys) w.out (record_octets * w.count)
          ∙ ap (λ (j : ℕ). sets (sets w.out (record_octets * w.count) (records_of l w.supervision xs)) j (records_of l (supervision_after l w.supervision xs) ys)) k in
          let v : supervision_after l w.supervision (xs ++ ys) ≡ supervision_after l (supervision_after l w.supervision xs) ys = supervision-append l w.supervision xs ys in
          λ i. record { unit_memory = unit_memory_after s (unit_memory_after s w.unit_memory ms) ns; supervision = v i; out = o i; count = c i }
