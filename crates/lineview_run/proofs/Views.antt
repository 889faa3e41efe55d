-- How one octet after the other makes up all of them, and the records of each those of all.
use Prim.Native.Nat.{ℕ, ◌+◌, ◌-◌, ◌*◌, ◌≤◌, ◌<◌}
use mathlib.Core.Path.{◌≡◌, refl, sym, ap, ap₂, ◌∙◌, subst}
use mathlib.Core.List.{List, [], ◌∷◌, ◌++◌, append-nil, append_assoc}
use lib.ListN.{length, take, get_or, drop, drop_of_length-le}
use lib.Seq.{drop-cons}
use native.Mathlib.Numerals.{add-one}
use native.Mathlib.Omega.{arith}
use borrow.Rule.Slice.PartMut.{mid_of, put_mid, mid_len}
use Rattle.board.specs.Limits.{record_octets, record_room}
use Rattle.input.specs.Receive.{ReceiveOutcome}
use Rattle.link.specs.Held.{Held}
use Rattle.lineview_board.specs.View.{octet_fed, passed, view_records, all_written}
use Rattle.lineview_board.proofs.Areas.{fed-few, fed-passed, fed-written}
use Rattle.std.specs.Prelude.{Option}
use Rattle.std.specs.Io.KnownBytes.{Consumes, Appends}
use Rattle.std.proofs.KnownBytes.{Appends-nil, Consumes-trans, Appends-trans}
use Rattle.bits.proofs.Machines.{run-append, outs-append}
use Rattle.bits.proofs.Parts.{filled}
use Rattle.lineview_run.specs.View.{all_passed, Views}

octet-step : (h : Held) (octet : ℕ) (rest : List ℕ) → all_passed h (octet ∷ rest) ≡ all_passed (passed h octet) rest
unfolding all_passed
octet-step h octet rest = refl

no-octet : (h : Held) → all_passed h [] ≡ h
unfolding all_passed
no-octet h = refl

record-step : (h : Held) (octet : ℕ) (rest : List ℕ) → all_written h (octet ∷ rest) ≡ view_records h octet ++ all_written (passed h octet) rest
unfolding all_written
record-step h octet rest = refl

no_record : (h : Held) → all_written h [] ≡ []
unfolding all_written
no_record h = refl

-- after i octets, with `at` octets of records: those that are left, fed from here, make up all of them
pub record Fed (octets : List ℕ) (h₀ h : Held) (area : List ℕ) (at i : ℕ) : Type 0 where
  pub held : all_passed h (drop i octets) ≡ all_passed h₀ octets
  pub records : take at area ++ all_written h (drop i octets) ≡ all_written h₀ octets
  pub few : at ≤ record_room * i

pub fed-none : (octets : List ℕ) (h : Held) (area : List ℕ) → Fed octets h h area 0 0
fed-none octets h area = record { held = refl; records = refl; few = omega arith }

-- one octet more
module _ (octets : List ℕ) (h₀ h : Held) (area : List ℕ) (at i : ℕ) (below : i < length octets) (room : at + record_room ≤ length area) (so_far : Fed octets h₀ h area at i) where
  abbrev octet : ℕ
  octet = get_or octets i 0

  abbrev lent : List ℕ
  lent = mid_of at (length area - at) area

  lent-room : record_room ≤ length lent
  lent-room = rw (mid_len at (length area) area (omega arith)) (omega arith)

  next : drop i octets ≡ octet ∷ drop (i + 1) octets
  next = drop-cons octets i 0 below ∙ ap (λ (k : ℕ). octet ∷ drop k octets) (sym (add-one i))

  pub fed-more : (f : ReceiveOutcome) (at' : ℕ) → length f.records ≡ length (mid_of at (length area - at) area)
      → f ≡ octet_fed h.link (get_or octets i 0) h.pool h.descriptors (mid_of at (length area - at) area)
      → at' ≡ at + record_octets * f.count
      → Fed octets h₀ (record { link = f.link; pool = f.pool; descriptors = f.descriptors }) (put_mid at (length area - at) area f.records) at' (i + 1)
  fed-more f at' kept e behind-at =
      let held : record { link = f.link; pool = f.pool; descriptors = f.descriptors } ≡ passed h octet =
      ap {B = Held} (λ (x : ReceiveOutcome). record { link = x.link; pool = x.pool; descriptors = x.descriptors }) e ∙ fed-passed h octet lent lent-room in
      let records : take (record_octets * f.count) f.records ≡ view_records h octet =
      ap (λ (x : ReceiveOutcome). take (record_octets * x.count) x.records) e ∙ fed-written h octet lent lent-room in
      let count : f.count ≤ 3 = fed-few _ _ _ _ _ e in
      rw behind-at
      (record {
        held =
            ap (λ (x : Held). all_passed x (drop (i + 1) octets)) held
            ∙ sym (ap (all_passed h) next ∙ octet-step h octet (drop (i + 1) octets)) ∙ so_far.held;
        records =
            ap₂ (λ (xs : List ℕ) (x : Held). xs ++ all_written x (drop (i + 1) octets))
            (sym (filled area f.records at (record_octets * f.count) (omega arith) (omega (arith, lent-room))) ∙ ap (λ (xs : List ℕ). take at area ++ xs) records) held
            ∙ append_assoc (take at area) (view_records h octet) (all_written (passed h octet) (drop (i + 1) octets))
            ∙ ap (λ (xs : List ℕ). take at area ++ xs) (sym (ap (all_written h) next ∙ record-step h octet (drop (i + 1) octets))) ∙ so_far.records;
        few = omega (arith, so_far.few);
      })

-- all fed
pub all-fed : (octets : List ℕ) (h₀ h : Held) (area : List ℕ) (at i : ℕ) → length octets ≤ i → Fed octets h₀ h area at i
    → (h ≡ all_passed h₀ octets) × (take at area ≡ all_written h₀ octets)
all-fed octets h₀ h area at i none f =
    let end : drop i octets ≡ [] = drop_of_length-le octets none in (
      sym (ap (all_passed h) end ∙ no-octet h) ∙ f.held,
      sym (ap (λ (xs : List ℕ). take at area ++ xs) (ap (all_written h) end ∙ no_record h) ∙ append-nil (take at area)) ∙ f.records,
    )

-- ---- one read after the other

-- nothing read, nothing written
pub views-none : (h : Held) (a b o : Option (List ℕ)) → Consumes a b [] → Views h h a b o o
views-none h a b o none = ([], none, subst (Appends o o) (sym (no_record h)) (Appends-nil o), sym (no-octet h))

passed-more : (h : Held) (xs ys : List ℕ) → all_passed h (xs ++ ys) ≡ all_passed (all_passed h xs) ys
unfolding all_passed
passed-more h xs ys = run-append passed xs ys h

written-more : (h : Held) (xs ys : List ℕ) → all_written h (xs ++ ys) ≡ all_written h xs ++ all_written (all_passed h xs) ys
unfolding all_passed all_written
written-more h xs ys = outs-append passed view_records xs ys h

-- what a read and its records do after those before them
pub views-more : (h₀ h h' : Held) (a b c o p q : Option (List ℕ)) → Views h₀ h a b o p → Views h h' b c p q → Views h₀ h' a c o q
views-more h₀ h h' a b c o p q (xs, first, wrote, held) (ys, second, more, last) = (
  xs ++ ys,
  Consumes-trans a b c xs ys first second,
  subst (Appends o q) (ap (λ (x : Held). all_written h₀ xs ++ all_written x ys) held ∙ sym (written-more h₀ xs ys)) (Appends-trans o p q _ _ wrote more),
  last ∙ ap (λ (x : Held). all_passed x ys) held ∙ sym (passed-more h₀ xs ys),
)
