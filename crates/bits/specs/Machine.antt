-- A machine that takes one input at a time: its state after a list of inputs, and what it puts out on the way.
use Rattle.std.specs.Prelude.{List, [], ◌∷◌, ◌++◌}

abbrev pub run : {S A : Type 0} → (S → A → S) → S → List A → S
run step s [] = s
run step s (a ∷ l) = run step (step s a) l

abbrev pub outs : {S A B : Type 0} → (S → A → S) → (S → A → List B) → S → List A → List B
outs step put s [] = []
outs step put s (a ∷ l) = put s a ++ outs step put (step s a) l
