-- Blocks of whole records, one after the other, and then the rest.
use Prim.Native.Nat.{ℕ, ◌*◌}
use mathlib.Core.Path.{◌≡◌, sym, ap, ◌∙◌, subst}
use mathlib.Core.List.{List, [], ◌++◌, append_assoc}
use lib.ListN.{length}
use Rattle.std.specs.Prelude.{Option}
use Rattle.std.specs.Io.KnownBytes.{Consumes, Appends}
use Rattle.std.proofs.KnownBytes.{Consumes-nil, Appends-nil, Consumes-trans, Appends-trans}
use Rattle.recordview_lines.specs.declared.viewer.Viewer.{Viewer}
use Rattle.recordview_lines.specs.Viewer.{nothing_seen}
use Rattle.recordview_run.specs.View.{records_in, viewer_after, lines_of, rest_text, view_text, Views}
use Rattle.recordview_run.proofs.Records.{rest-append}

-- what was read and written so far: whatever comes, its rest makes up what is written for all
pub record Running (i i' o o' : Option (List ℕ)) (v : Viewer) : Type 0 where
  pub seen : List ℕ
  pub written : List ℕ
  pub read : Consumes i i' seen
  pub wrote : Appends o o' written
  pub rest : (octets : List ℕ) → view_text (seen ++ octets) ≡ written ++ rest_text v octets

pub running-none : (i o : Option (List ℕ)) (v : Viewer) → v ≡ nothing_seen → Running i i o o v
running-none i o v e =
    record {
      seen = [];
      written = [];
      read = Consumes-nil i;
      wrote = Appends-nil o;
      rest = λ octets. ap (λ (x : Viewer). rest_text x octets) (sym e);
    }

pub running-more : (i i' i'' o o' o'' : Option (List ℕ)) (v v' : Viewer) (k : ℕ) (block : List ℕ) → length block ≡ 16 * k → Consumes i' i'' block
    → v' ≡ viewer_after v (records_in block) → Appends o' o'' (lines_of v (records_in block)) → Running i i' o o' v → Running i i'' o o'' v'
running-more i i' i'' o o' o'' v v' k block whole more e lines r =
    record {
      seen = r.seen ++ block;
      written = r.written ++ lines_of v (records_in block);
      read = Consumes-trans i i' i'' _ _ r.read more;
      wrote = Appends-trans o o' o'' _ _ r.wrote lines;
      rest =
          λ octets. ap view_text (append_assoc r.seen block octets) ∙ r.rest (block ++ octets)
          ∙ ap (λ (xs : List ℕ). r.written ++ xs)
          (rest-append k block octets whole v ∙ ap (λ (x : Viewer). lines_of v (records_in block) ++ rest_text x octets) (sym e))
          ∙ sym (append_assoc r.written (lines_of v (records_in block)) (rest_text v' octets));
    }

-- the rest
pub running-end : (i i' i'' o o' o'' : Option (List ℕ)) (v : Viewer) (octets : List ℕ) → Consumes i' i'' octets → Appends o' o'' (rest_text v octets)
    → Running i i' o o' v → Views i i'' o o''
running-end i i' i'' o o' o'' v octets more last r = (
  r.seen ++ octets,
  Consumes-trans i i' i'' _ _ r.read more,
  subst (Appends o o'') (sym (r.rest octets)) (Appends-trans o o' o'' _ _ r.wrote last),
)
