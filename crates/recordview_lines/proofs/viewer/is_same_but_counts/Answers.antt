-- `recordview_lines::viewer::is_same_but_counts` meets its contract: the eight octets from the ninth on are all that are left.
use Rattle.std.proofs.Common.{ℕ, ◌≡◌, List, length, take, drop, take_all, length-drop, ap, ap₂, ◌∙◌, arith, rules}
use Rattle.std.specs.Prelude.{Bool, ◌&&◌}
use Rattle.recordview_lines.specs.Viewer.{same}
use Rattle.recordview_lines.proofs.viewer.is_same_but_counts.Goals as goal

rest : (xs : List ℕ) → length xs ≡ 16 → take 8 (drop 8 xs) ≡ drop 8 xs
rest xs e = take_all 8 (drop 8 xs) (omega (arith, length-drop 8 xs))

pub returns-then-eq : goal.returns-then-eq
returns-then-eq c =
    c.eq-then-eq.ensures
    ∙ ap₂ same (rest c.args.a (search rules)) (rest c.args.b (search rules))
    ∙ ap (λ (b : Bool). b && same (drop 8 c.args.a) (drop 8 c.args.b)) (c.if-eq.ensures)
