-- An alarm that stands: it came in the last call, or stood before and the last call does not clear it.
use mathlib.Core.Path.{◌≡◌, refl, sym, ap, subst, ◌∙◌}
use mathlib.Core.Logic.{◌⊎◌, inl, inr}
use mathlib.Core.List.{List, [], ◌∷◌, ◌++◌, append_assoc}
use Rattle.monitor.specs.ErrorMonitors.{ErrorMonitor}
use Rattle.calls.specs.Call.{Call}
use Rattle.std.proofs.lemmas.List.{same_from_push}
use Rattle.promises.specs.History.{Action, action_of, past_after}
use Rattle.promises.specs.Demand3.{AlarmIn, AlarmCame}
use Rattle.promises.proofs.Splits.{not-nil, ended}

-- what is said of the action of each call after one in which an alarm came, whatever `Off` says of it
module _ (x : ErrorMonitor) (Off : Action → Type 0) where
  abbrev W : List Call → Type 0
  W = AlarmCame x Off

  abbrev action : List Call → Call → Action
  action cs c = action_of (past_after cs).front c

  pub came-now : (cs : List Call) (c : Call) → AlarmIn x (past_after cs).history (action cs c) → W (cs ++ (c ∷ []))
  came-now cs c n = record { before = cs; call = c; later = []; is = refl; came = n; kept = λ a d b e. absurd (not-nil a d b e) }

  pub kept_on : (cs : List Call) (c : Call) → W cs → ¬ Off (action cs c) → W (cs ++ (c ∷ []))
  kept_on cs c s n =
      record {
        before = s.before;
        call = s.call;
        later = s.later ++ (c ∷ []);
        is = ap (λ (l : List Call). l ++ (c ∷ [])) s.is ∙ append_assoc s.before (s.call ∷ s.later) (c ∷ []);
        came = s.came;
        kept = λ a d b e. go a d b e (ended b);
      }
    where
      go : (a : List Call) (d : Call) (b : List Call) → s.later ++ (c ∷ []) ≡ a ++ (d ∷ b)
          → ((b ≡ []) ⊎ ((i : List Call) × (z : Call) × (b ≡ i ++ (z ∷ [])))) → ¬ Off (action (s.before ++ (s.call ∷ a)) d)
      go a d b e (inl q) o =
          let r = same_from_push s.later a c d (e ∙ ap (λ (l : List Call). a ++ (d ∷ l)) q) in
          let whole : s.before ++ (s.call ∷ a) ≡ cs = ap (λ (l : List Call). s.before ++ (s.call ∷ l)) (sym r.0) ∙ sym s.is in
          n (subst (λ (k : Call). Off (action cs k)) (sym r.1) (subst (λ (l : List Call). Off (action l d)) whole o))
      go a d b e (inr m) o =
          let r = same_from_push s.later (a ++ (d ∷ m.0)) c m.1 (e ∙ ap (λ (l : List Call). a ++ (d ∷ l)) m.2 ∙ sym (append_assoc a (d ∷ m.0) (m.1 ∷ []))) in
          s.kept a d m.0 r.0 o

  pub taken_back : (cs : List Call) (c : Call) → W (cs ++ (c ∷ [])) → AlarmIn x (past_after cs).history (action cs c) ⊎ ((¬ Off (action cs c)) × W cs)
  taken_back cs c s = go (ended s.later)
    where
      go : ((s.later ≡ []) ⊎ ((i : List Call) × (z : Call) × (s.later ≡ i ++ (z ∷ []))))
          → AlarmIn x (past_after cs).history (action cs c) ⊎ ((¬ Off (action cs c)) × W cs)
      go (inl q) =
          let r = same_from_push cs s.before c s.call (s.is ∙ ap (λ (l : List Call). s.before ++ (s.call ∷ l)) q) in
          inl (subst (λ (l : List Call). AlarmIn x (past_after l).history (action l c)) (sym r.0) (subst (λ (k : Call). AlarmIn x (past_after s.before).history (action s.before k)) (sym r.1) s.came))
      go (inr m) =
          let r = same_from_push cs (s.before ++ (s.call ∷ m.0)) c m.1
          (s.is ∙ ap (λ (l : List Call). s.before ++ (s.call ∷ l)) m.2 ∙ sym (append_assoc s.before (s.call ∷ m.0) (m.1 ∷ []))) in
          inr (
            (λ o. s.kept m.0 m.1 [] m.2 (subst (λ (k : Call). Off (action (s.before ++ (s.call ∷ m.0)) k)) r.1 (subst (λ (l : List Call). Off (action l c)) r.0 o))),
            record {
              before = s.before;
              call = s.call;
              later = m.0;
              is = r.0;
              came = s.came;
              kept = λ a d b e. s.kept a d (b ++ (m.1 ∷ []))
                  (m.2 ∙ ap (λ (l : List Call). l ++ (m.1 ∷ [])) e ∙ append_assoc a (d ∷ b) (m.1 ∷ []));
            },
          )

  pub never-yet : W [] → ⊥
  never-yet s = not-nil s.before s.call s.later s.is
