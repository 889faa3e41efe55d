-- Records in a row, one after the other; and octets in two parts, the first of whole records.
use Prim.Native.Nat.{ℕ, zero, suc, ◌+◌, ◌*◌, ◌/◌, ◌<◌, ◌≤◌}
use mathlib.Core.Path.{◌≡◌, refl, sym, ap, ap₂, ◌∙◌, subst}
use mathlib.Core.List.{List, [], ◌∷◌, ◌++◌, append-nil, append_assoc}
use lib.ListN.{length, take, drop, get_or, drop_of_length-le, length-append, length-drop}
use lib.Seq.{drop-cons, take-append-le, drop-append-le, drop-append-add}
use native.Mathlib.Numerals.{add-one}
use native.Mathlib.Omega.{arith}
use Rattle.std.specs.Prelude.{Option}
use Rattle.std.specs.Simd.{first_chunks}
use Rattle.std.specs.Io.KnownBytes.{Appends}
use Rattle.std.proofs.KnownBytes.{Appends-nil, Appends-trans}
use Rattle.bits.proofs.Machines.{run-append, outs-append}
use Rattle.recordview_lines.specs.declared.viewer.Viewer.{Viewer}
use Rattle.recordview_lines.specs.declared.viewer.Taken.{Taken}
use Rattle.recordview_lines.specs.Lines.{torn_text}
use Rattle.recordview_lines.specs.Totals.{totals_text}
use Rattle.recordview_lines.specs.Viewer.{taken}
use Rattle.recordview_run.specs.View.{records_in, left_over, line_ended, viewer_taken, line_taken, viewer_after, lines_of, end_text, rest_text}

after-none : (v : Viewer) → viewer_after v [] ≡ v
unfolding viewer_after
after-none v = refl

after-one : (v : Viewer) (r : List ℕ) (rs : List (List ℕ)) → viewer_after v (r ∷ rs) ≡ viewer_after (viewer_taken v r) rs
unfolding viewer_after
after-one v r rs = refl

lines-none : (v : Viewer) → lines_of v [] ≡ []
unfolding lines_of
lines-none v = refl

lines-one : (v : Viewer) (r : List ℕ) (rs : List (List ℕ)) → lines_of v (r ∷ rs) ≡ line_taken v r ++ lines_of (viewer_taken v r) rs
unfolding lines_of
lines-one v r rs = refl

-- after i records: those that are left, from here on, make up all of them
pub record Taking (records : List (List ℕ)) (v₀ v : Viewer) (o o' : Option (List ℕ)) (i : ℕ) : Type 0 where
  pub written : List ℕ
  pub viewer : viewer_after v (drop i records) ≡ viewer_after v₀ records
  pub lines : written ++ lines_of v (drop i records) ≡ lines_of v₀ records
  pub wrote : Appends o o' written

pub taking-none : (records : List (List ℕ)) (v : Viewer) (o : Option (List ℕ)) → Taking records v v o o 0
taking-none records v o = record { written = []; viewer = refl; lines = refl; wrote = Appends-nil o }

pub taking-more : (records : List (List ℕ)) (v₀ v : Viewer) (o o' o'' : Option (List ℕ)) (i : ℕ) (r : List ℕ) (taken' : Taken) → i < length records → r ≡ get_or records i r
    → taken' ≡ taken v r → Appends o' o'' (line_ended taken'.ended) → Taking records v₀ v o o' i → Taking records v₀ taken'.viewer o o'' (i + 1)
taking-more records v₀ v o o' o'' i r taken' below is e line t =
    let after : taken'.viewer ≡ viewer_taken v r = ap (λ (x : Taken). x.viewer) e in
    let next : drop i records ≡ r ∷ drop (i + 1) records =
    drop-cons records i r below ∙ ap₂ (λ (x : List ℕ) (k : ℕ). x ∷ drop k records) (sym is) (sym (add-one i)) in
    record {
      written = t.written ++ line_taken v r;
      viewer = ap (λ (x : Viewer). viewer_after x (drop (i + 1) records)) after ∙ sym (ap (viewer_after v) next ∙ after-one v r (drop (i + 1) records)) ∙ t.viewer;
      lines =
          ap (λ (x : Viewer). (t.written ++ line_taken v r) ++ lines_of x (drop (i + 1) records)) after
          ∙ append_assoc t.written (line_taken v r) (lines_of (viewer_taken v r) (drop (i + 1) records))
          ∙ ap (λ (xs : List ℕ). t.written ++ xs) (sym (ap (lines_of v) next ∙ lines-one v r (drop (i + 1) records))) ∙ t.lines;
      wrote = Appends-trans o o' o'' _ _ t.wrote (subst (Appends o' o'') (ap (λ (x : Taken). line_ended x.ended) e) line);
    }

-- all taken
pub taking-all : (records : List (List ℕ)) (v₀ v : Viewer) (o o' : Option (List ℕ)) (i : ℕ) → length records ≤ i → Taking records v₀ v o o' i
    → (v ≡ viewer_after v₀ records) × Appends o o' (lines_of v₀ records)
taking-all records v₀ v o o' i none t =
    let end : drop i records ≡ [] = drop_of_length-le records none in (
      sym (ap (viewer_after v) end ∙ after-none v) ∙ t.viewer,
      subst (Appends o o')
          (sym (append-nil t.written) ∙ sym (ap (λ (xs : List ℕ). t.written ++ xs) (ap (lines_of v) end ∙ lines-none v)) ∙ t.lines)
          t.wrote,
    )

-- the last octets: lines, the line that has not ended, a torn end, the totals
pub rest-written : (v v' : Viewer) (octets torn : List ℕ) (o p q r s : Option (List ℕ)) → v' ≡ viewer_after v (records_in octets)
    → Appends o p (lines_of v (records_in octets)) → Appends p q (line_ended v'.run) → torn ≡ left_over octets → Appends q r (torn_text torn)
    → Appends r s (totals_text v'.totals) → Appends o s (rest_text v octets)
unfolding rest_text
rest-written v v' octets torn o p q r s e lines line t torn-line totals =
    subst (Appends o s)
    (ap₂ (λ (x : Viewer) (xs : List ℕ). lines_of v (records_in octets) ++ end_text x xs) e t)
    (Appends-trans o p s _ _ lines (Appends-trans p q s _ _ line (Appends-trans q r s _ _ torn-line totals)))

-- ---- octets in two parts, the first of k records

chunks-append : (k j m : ℕ) (xs ys : List ℕ) → m ≡ k + j → length xs ≡ 16 * k
    → first_chunks 16 m (xs ++ ys) ≡ first_chunks 16 k xs ++ first_chunks 16 j ys
chunks-append zero j m [] ys e n = ap (λ (i : ℕ). first_chunks 16 i ys) (omega (arith, e))
chunks-append zero j m (x ∷ xs) ys e n = absurd (omega (arith, n))
chunks-append (suc k) j m xs ys e n =
    let all : m ≡ suc (k + j) = omega (arith, e) in
    let first : 16 ≤ length xs = omega (arith, n) in
    ap (λ (i : ℕ). first_chunks 16 i (xs ++ ys)) all
    ∙ ap₂ (λ (a : List ℕ) (b : List ℕ). a ∷ first_chunks 16 (k + j) b) (take-append-le 16 xs ys first) (drop-append-le 16 xs ys first)
    ∙ ap (λ (rs : List (List ℕ)). take 16 xs ∷ rs) (chunks-append k j (k + j) (drop 16 xs) ys refl (omega (arith, n, length-drop 16 xs)))

module _ (k : ℕ) (xs ys : List ℕ) (whole : length xs ≡ 16 * k) where
  count : length xs / 16 ≡ k
  count = omega (arith, whole)

  count-append : length (xs ++ ys) / 16 ≡ k + length ys / 16
  count-append = omega (arith, whole, length-append xs ys)

  records-append : records_in (xs ++ ys) ≡ records_in xs ++ records_in ys
  records-append =
      chunks-append k (length ys / 16) (length (xs ++ ys) / 16) xs ys count-append whole
      ∙ ap (λ (i : ℕ). first_chunks 16 i xs ++ records_in ys) (sym count)

  left-append : left_over (xs ++ ys) ≡ left_over ys
  left-append =
      let at : length (xs ++ ys) / 16 * 16 ≡ length xs + length ys / 16 * 16 = omega (arith, count-append, whole) in
      ap (λ (i : ℕ). drop i (xs ++ ys)) at ∙ drop-append-add xs ys (length ys / 16 * 16)

  -- the lines of the first part, then the rest
  pub rest-append : (v : Viewer) → rest_text v (xs ++ ys) ≡ lines_of v (records_in xs) ++ rest_text (viewer_after v (records_in xs)) ys
  unfolding rest_text lines_of viewer_after
  rest-append v =
      let one = records_in xs in
      let two = records_in ys in
      ap₂ (λ (rs : List (List ℕ)) (torn : List ℕ). lines_of v rs ++ end_text (viewer_after v rs) torn) records-append left-append
      ∙ ap₂ (λ (lines : List ℕ) (after : Viewer). lines ++ end_text after (left_over ys)) (outs-append viewer_taken line_taken one two v) (run-append viewer_taken one two v)
      ∙ append_assoc (lines_of v one) (lines_of (viewer_after v one) two) (end_text (viewer_after (viewer_after v one) two) (left_over ys))
