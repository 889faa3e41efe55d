-- What one indication, and a line of them, is to the filter, to the counts and to the records.
use Prim.Native.Nat.{ℕ}
use mathlib.Core.Path.{◌≡◌, refl, sym, ap, ap₂, ◌∙◌}
use mathlib.Core.Bool.{Bool, true, false, ◌&&◌, cond}
use mathlib.Core.List.{List, [], ◌∷◌, ◌++◌, map, map-append, append_assoc, append-nil}
use lib.Dec.{eqb}
use Rattle.bits.specs.Octets.{whole_octets}
use Rattle.bits.specs.Format.{basic}
use Rattle.bits.specs.Machine.{run, outs}
use Rattle.bits.proofs.Machines.{run-append, outs-append}
use Rattle.framing.specs.declared.Verdict.{Verdict}
use Rattle.framing.specs.declared.Verdict.TheVariants.{Short, NotWhole, CheckWrong, Good}
use Rattle.framing.specs.Delimitation.{Finding, closed, abort, long}
use Rattle.framing.specs.Verdict.{verdict_of}
use Rattle.filter.specs.declared.Fate.{Fate}
use Rattle.filter.specs.declared.Fate.TheVariants.{HandedOver, Dropped, Lost}
use Rattle.filter.specs.declared.Memory.{Memory}
use Rattle.filter.specs.Memory.{settled}
use Rattle.filter.specs.History.{FilterInput, good, command-4, memory_next, fate_of}
use Rattle.memory.specs.declared.Status.{Status}
use Rattle.memory.specs.declared.Status.TheVariants as statuses
use Rattle.board.specs.declared.Settings.{Settings}
use Rattle.board.specs.declared.Counts.{Counts}
use Rattle.records.specs.declared.RecordKind.{RecordKind}
use Rattle.records.specs.declared.RecordKind.TheVariants as kinds
use Rattle.records.specs.declared.Happening.{Happening}
use Rattle.units.specs.Indications.{Indication, found, octet_end}
use Rattle.units.specs.Units.{UnitMemory, Effect, is_free, counted, by_fate, tick_of, good_unit, errored_unit, closed_unit, octet_effect, effect_of, next_unit_memory, happens, unit_memory_after, happenings}
use Rattle.units.proofs.UnitStates.{each-cond}
use Rattle.readback.proofs.Lists.{made-append}
use Rattle.readback.proofs.Handing.{found_in}
use Rattle.bookings.specs.Booking.{to_filter, input_of, inputs_in}
use Rattle.bookings.specs.History.{if_good, good_units, units_of, KindOrGood, is_good, shown_as, shown, kind_shown, kinds_shown, fate_told, fates_told}

-- ---- lists in two parts
pub kinds-append : (xs ys : List Happening) → kinds_shown (xs ++ ys) ≡ kinds_shown xs ++ kinds_shown ys
unfolding kinds_shown
kinds-append = made-append (λ (h : Happening). kind_shown h.kind) kinds_shown refl (λ x xs. refl)

pub fates-append : (xs ys : List Happening) → fates_told (xs ++ ys) ≡ fates_told xs ++ fates_told ys
unfolding fates_told
fates-append = made-append (λ (h : Happening). fate_told h.kind) fates_told refl (λ x xs. refl)

pub units-append : (xs ys : List FilterInput) → units_of (xs ++ ys) ≡ units_of xs ++ units_of ys
unfolding units_of
units-append [] ys = refl
units-append (good u free ∷ xs) ys = ap (λ (l : List (List ℕ)). u ∷ l) (units-append xs ys)
units-append (command-4 ∷ xs) ys = units-append xs ys

pub good-append : (xs ys : List Finding) → good_units (xs ++ ys) ≡ good_units xs ++ good_units ys
unfolding good_units
good-append [] ys = refl
good-append (closed u ∷ xs) ys =
    ap (λ (l : List (List ℕ)). if_good u (verdict_of basic u) ++ l) (good-append xs ys) ∙ sym (append_assoc (if_good u (verdict_of basic u)) (good_units xs) (good_units ys))
good-append (abort ∷ xs) ys = good-append xs ys
good-append (long ∷ xs) ys = good-append xs ys

-- ---- the findings of indications
abbrev found_one : Indication → List Finding
found_one (found f) = f ∷ []
found_one octet_end = []

one_more : (m : Indication) (ms : List Indication) → found_one m ++ found_in ms ≡ found_in (m ∷ ms)
one_more (found f) ms = refl
one_more octet_end ms = refl

-- ---- one indication
by-its-fate : (P : Effect → Type 0) (f : Fate) {a b c : Effect} → (f ≡ HandedOver → P a) → (f ≡ Dropped → P b) → (f ≡ Lost → P c) → P (by_fate f a b c)
by-its-fate P HandedOver x y z = x refl
by-its-fate P Dropped x y z = y refl
by-its-fate P Lost x y z = z refl

-- a tick tells nothing of a unit
quiet-tick : (b : Bool) (n : ℕ) → fates_told (cond b (tick_of n ∷ []) []) ≡ []
unfolding fates_told
quiet-tick true n = refl
quiet-tick false n = refl

unshown-tick : (b : Bool) (n : ℕ) → kinds_shown (cond b (tick_of n ∷ []) []) ≡ []
unfolding kinds_shown
unshown-tick true n = refl
unshown-tick false n = refl

module _ (s : Settings) where
  abbrev remember : Memory → FilterInput → Memory
  remember = memory_next basic s.filter s.mask

  abbrev fate : Memory → FilterInput → List Fate
  fate = fate_of basic s.filter s.mask

  abbrev pub count_all : Counts → List Fate → Counts
  count_all = run (λ c f. counted f c)

  -- what an effect on units and memory is to the filter, given these inputs, and to the counts and records, given these findings
  pub record Tells (o : UnitMemory) (fs : List Finding) (xs : List FilterInput) (u : UnitMemory) (hs : List Happening) : Type 0 where
    pub memory : u.units.memory ≡ run remember o.units.memory xs
    pub fated : fates_told hs ≡ outs remember fate o.units.memory xs
    pub counts : u.units.counts ≡ count_all o.units.counts (fates_told hs)
    pub recorded : kinds_shown hs ≡ map shown fs
    pub filtered : units_of xs ≡ good_units fs

  abbrev TellsOf : UnitMemory → Indication → Effect → Type 0
  TellsOf o m e = Tells o (found_one m) (input_of o m) e.unit_memory e.happenings

  -- a good unit, by its fate
  module _ (o : UnitMemory) (u : List Bool) (v : verdict_of basic u ≡ Good) where
    abbrev xs : List FilterInput
    xs = good (whole_octets u) (is_free o) ∷ []

    is-shown : is_good ∷ [] ≡ map shown (closed u ∷ [])
    is-shown = ap (λ (w : Verdict). shown_as w ∷ []) (sym v)

    is-unit : units_of xs ≡ good_units (closed u ∷ [])
    unfolding units_of good_units
    is-unit = ap (λ (w : Verdict). if_good u w ++ []) (sym v)

    tells-good : Tells o (closed u ∷ []) xs (good_unit s o (whole_octets u)).unit_memory (good_unit s o (whole_octets u)).happenings
    unfolding good_unit kinds_shown fates_told
    tells-good =
        by-its-fate (λ (e : Effect). Tells o (closed u ∷ []) xs e.unit_memory e.happenings)
        (settled basic s.filter s.mask o.units.memory (whole_octets u) (is_free o)).fate
        (λ f. record { memory = refl; fated = ap (λ (x : Fate). x ∷ []) (sym f); counts = refl; recorded = is-shown; filtered = is-unit })
        (λ f. record { memory = refl; fated = ap (λ (x : Fate). x ∷ []) (sym f); counts = refl; recorded = is-shown; filtered = is-unit })
        (λ f. record { memory = refl; fated = ap (λ (x : Fate). x ∷ []) (sym f); counts = refl; recorded = is-shown; filtered = is-unit })

  -- a unit with an error, or a short one: the filter is not asked
  module _ (o : UnitMemory) (u : List Bool) where
    tells-errored : (status : Status) (kind : RecordKind) → kind_shown kind ≡ shown (closed u) ∷ [] → fate_told kind ≡ [] → [] ≡ if_good u (verdict_of basic u)
        → Tells o (closed u ∷ []) [] (errored_unit s o status kind (whole_octets u)).unit_memory (errored_unit s o status kind (whole_octets u)).happenings
    unfolding errored_unit kinds_shown fates_told units_of good_units
    tells-errored status kind k f v =
        each-cond (λ (e : Effect). Tells o (closed u ∷ []) [] e.unit_memory e.happenings) (is_free o)
        (record { memory = refl; fated = quiet; counts = ap (count_all o.units.counts) (sym quiet); recorded = alone; filtered = none-good })
        (record { memory = refl; fated = quiet; counts = ap (count_all o.units.counts) (sym quiet); recorded = alone; filtered = none-good })
      where
        quiet : fate_told kind ++ [] ≡ []
        quiet = append-nil (fate_told kind) ∙ f

        alone : kind_shown kind ++ [] ≡ shown (closed u) ∷ []
        alone = append-nil (kind_shown kind) ∙ k

        none-good : [] ≡ if_good u (verdict_of basic u) ++ []
        none-good = v ∙ sym (append-nil (if_good u (verdict_of basic u)))

    tells-closed : (w : Verdict) → verdict_of basic u ≡ w → Tells o (closed u ∷ []) (to_filter o u w) (closed_unit s o u).unit_memory (closed_unit s o u).happenings
    unfolding closed_unit kinds_shown fates_told units_of good_units
    tells-closed Short v =
        rw v (record { memory = refl; fated = refl; counts = refl; recorded = ap (λ (w : Verdict). shown_as w ∷ []) (sym v); filtered = ap (λ (w : Verdict). if_good u w ++ []) (sym v) })
    tells-closed NotWhole v =
        rw v (tells-errored statuses.NotWhole kinds.NotWhole (ap (λ (w : Verdict). shown_as w ∷ []) (sym v)) refl (ap (if_good u) (sym v)))
    tells-closed CheckWrong v =
        rw v (tells-errored statuses.CheckWrong kinds.CheckWrong (ap (λ (w : Verdict). shown_as w ∷ []) (sym v)) refl (ap (if_good u) (sym v)))
    tells-closed Good v = rw v (tells-good o u v)

  pub tells : (o : UnitMemory) (m : Indication) → Tells o (found_one m) (input_of o m) (next_unit_memory s o m) (happens s o m)
  unfolding effect_of octet_effect kinds_shown fates_told units_of good_units
  tells o (found (closed u)) = tells-closed o u (verdict_of basic u) refl
  tells o (found abort) = record { memory = refl; fated = refl; counts = refl; recorded = refl; filtered = refl }
  tells o (found long) = record { memory = refl; fated = refl; counts = refl; recorded = refl; filtered = refl }
  tells o octet_end =
      let b = eqb o.units.counting.left 1 && o.units.counting.on in
      record {
        memory = refl;
        fated = quiet-tick b o.units.counts.good;
        counts = ap (count_all o.units.counts) (sym (quiet-tick b o.units.counts.good));
        recorded = unshown-tick b o.units.counts.good;
        filtered = refl;
      }

  -- ---- indications in a row
  pub tells_all : (ms : List Indication) (o : UnitMemory) → Tells o (found_in ms) (inputs_in s o ms) (unit_memory_after s o ms) (happenings s o ms)
  unfolding inputs_in unit_memory_after happenings kinds_shown fates_told units_of good_units
  tells_all [] o = record { memory = refl; fated = refl; counts = refl; recorded = refl; filtered = refl }
  tells_all (m ∷ ms) o =
      let a = tells o m in
      let o' = next_unit_memory s o m in
      let b = tells_all ms o' in
      let hs = happens s o m in
      let hs' = outs (next_unit_memory s) (happens s) o' ms in
      let ys = outs (next_unit_memory s) input_of o' ms in
      record {
        memory =
            b.memory ∙ ap (λ (x : Memory). run remember x ys) a.memory
            ∙ sym (run-append remember (input_of o m) ys o.units.memory);
        fated =
            fates-append hs hs' ∙ ap₂ (λ (x y : List Fate). x ++ y) a.fated (b.fated ∙ ap (λ (x : Memory). outs remember fate x ys) a.memory)
            ∙ sym (outs-append remember fate (input_of o m) ys o.units.memory);
        counts =
            b.counts ∙ ap (λ (x : Counts). count_all x (fates_told hs')) a.counts
            ∙ sym (run-append (λ c f. counted f c) (fates_told hs) (fates_told hs') o.units.counts) ∙ ap (count_all o.units.counts) (sym (fates-append hs hs'));
        recorded =
            kinds-append hs hs' ∙ ap₂ (λ (x y : List KindOrGood). x ++ y) a.recorded b.recorded ∙ sym (map-append shown (found_one m) (found_in ms)) ∙ ap (map shown) (one_more m ms);
        filtered =
            units-append (input_of o m) ys ∙ ap₂ (λ (x y : List (List ℕ)). x ++ y) a.filtered b.filtered ∙ sym (good-append (found_one m) (found_in ms)) ∙ ap good_units (one_more m ms);
      }
