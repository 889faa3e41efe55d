-- How one octet after the other makes up all of them, and what each prints what all print.
use Prim.Native.Nat.{ℕ, ◌+◌, ◌≤◌, ◌<◌}
use mathlib.Core.Path.{◌≡◌, refl, sym, ap, ap₂, ◌∙◌, subst}
use mathlib.Core.List.{List, [], ◌∷◌, ◌++◌, append-nil, append_assoc}
use lib.ListN.{length, get_or, drop, drop_of_length-le}
use lib.Seq.{drop-cons}
use native.Mathlib.Numerals.{add-one}
use Rattle.std.specs.Prelude.{Option, Some, None, Result, Ok, Err, OnOk, IfSome, cond}
use Rattle.std.specs.Io.KnownBytes.{Consumes, Appends, IsAtEnd}
use Rattle.std.proofs.lemmas.Bool.{eq-eqb, ne_eqb}
use Rattle.std.proofs.KnownBytes.{Appends-nil, Consumes-trans, Appends-trans}
use Rattle.bits.proofs.Machines.{run-append, outs-append}
use Rattle.console_run.specs.declared.Session.{Session}
use Rattle.console_run.specs.Session.{State, state_of, start, line_passed, octet_passed, octet_text, line_text, all_passed, all_text, session_text, Answers, AnswersSome, AnswersAll}

state-step : (s : State) (octet : ℕ) (rest : List ℕ) → all_passed s (octet ∷ rest) ≡ all_passed (octet_passed s octet) rest
unfolding all_passed
state-step s octet rest = refl

no-octet : (s : State) → all_passed s [] ≡ s
unfolding all_passed
no-octet s = refl

text-step : (s : State) (octet : ℕ) (rest : List ℕ) → all_text s (octet ∷ rest) ≡ octet_text s octet ++ all_text (octet_passed s octet) rest
unfolding all_text
text-step s octet rest = refl

no-text : (s : State) → all_text s [] ≡ []
unfolding all_text
no-text s = refl

-- after i octets, with a text: those that are left, passed from here, make up all of them
pub record Passed (octets : List ℕ) (s₀ s : State) (t₀ t : List ℕ) (i : ℕ) : Type 0 where
  pub state : all_passed s (drop i octets) ≡ all_passed s₀ octets
  pub text : t ++ all_text s (drop i octets) ≡ t₀ ++ all_text s₀ octets

pub passed-none : (octets : List ℕ) (s : State) (t : List ℕ) → Passed octets s s t t 0
passed-none octets s t = record { state = refl; text = refl }

-- one octet more
pub passed-more : (octets : List ℕ) (s₀ s s' : State) (t₀ t t' : List ℕ) (i : ℕ) → i < length octets → Passed octets s₀ s t₀ t i
    → s' ≡ octet_passed s (get_or octets i 0) → t' ≡ t ++ octet_text s (get_or octets i 0) → Passed octets s₀ s' t₀ t' (i + 1)
passed-more octets s₀ s s' t₀ t t' i below so_far es et =
    let octet = get_or octets i 0 in
    let next : drop i octets ≡ octet ∷ drop (i + 1) octets = drop-cons octets i 0 below ∙ ap (λ (k : ℕ). octet ∷ drop k octets) (sym (add-one i)) in
    record {
      state = ap (λ (x : State). all_passed x (drop (i + 1) octets)) es ∙ sym (ap (all_passed s) next ∙ state-step s octet (drop (i + 1) octets)) ∙ so_far.state;
      text =
          ap₂ (λ (xs : List ℕ) (x : State). xs ++ all_text x (drop (i + 1) octets)) et es
          ∙ append_assoc t (octet_text s octet) (all_text (octet_passed s octet) (drop (i + 1) octets))
          ∙ ap (λ (xs : List ℕ). t ++ xs) (sym (ap (all_text s) next ∙ text-step s octet (drop (i + 1) octets))) ∙ so_far.text;
    }

-- an octet that ends a line, and one that does not
module _ (octets : List ℕ) (s₀ : State) (t₀ : List ℕ) (i : ℕ) (below : i < length octets) (s : Session) (begun pool descriptors records output t : List ℕ)
    (so_far : Passed octets s₀ (state_of s begun pool descriptors records output) t₀ t i) where
  pub line-ended : (s' : Session) (line begun' pool' descriptors' records' output' t' : List ℕ) → get_or octets i 0 ≡ 10 → line ≡ begun → begun' ≡ []
      → state_of s' [] pool' descriptors' records' output' ≡ line_passed (state_of s line pool descriptors records output)
      → t' ≡ t ++ line_text (state_of s line pool descriptors records output)
      → Passed octets s₀ (state_of s' begun' pool' descriptors' records' output') t₀ t' (i + 1)
  line-ended s' line begun' pool' descriptors' records' output' t' ends whole empty es et =
      let before = state_of s begun pool descriptors records output in
      let is_end = eq-eqb (get_or octets i 0) 10 ends in
      let passed = ap (λ (x : List ℕ). state_of s' x pool' descriptors' records' output') empty ∙ es
      ∙ ap (λ (x : List ℕ). line_passed (state_of s x pool descriptors records output)) whole in
      let put = et ∙ ap (λ (x : List ℕ). t ++ line_text (state_of s x pool descriptors records output)) whole in
      passed-more octets s₀ before _ t₀ t t' i below so_far
      (passed ∙ sym (ap (λ b. cond b (line_passed before) (record before { begun = before.begun ++ get_or octets i 0 ∷ [] })) is_end))
      (put ∙ sym (ap (λ b. t ++ cond b (line_text before) []) is_end))

  pub octet-kept : (begun' : List ℕ) → (get_or octets i 0 ≡ 10 → ⊥) → begun' ≡ begun ++ get_or octets i 0 ∷ []
      → Passed octets s₀ (state_of s begun' pool descriptors records output) t₀ t (i + 1)
  octet-kept begun' within eb =
      let before = state_of s begun pool descriptors records output in
      let no_end = ne_eqb (get_or octets i 0) 10 within in
      passed-more octets s₀ before _ t₀ t t i below so_far
      (ap (λ (x : List ℕ). state_of s x pool descriptors records output) eb
      ∙ sym (ap (λ b. cond b (line_passed before) (record before { begun = before.begun ++ get_or octets i 0 ∷ [] })) no_end))
      (sym (append-nil t) ∙ sym (ap (λ b. t ++ cond b (line_text before) []) no_end))

-- all passed
pub all-passed : (octets : List ℕ) (s₀ s : State) (t₀ t : List ℕ) (i : ℕ) → length octets ≤ i → Passed octets s₀ s t₀ t i
    → (s ≡ all_passed s₀ octets) × (t ≡ t₀ ++ all_text s₀ octets)
all-passed octets s₀ s t₀ t i none p =
    let end : drop i octets ≡ [] = drop_of_length-le octets none in (
      sym (ap (all_passed s) end ∙ no-octet s) ∙ p.state,
      sym (ap (λ (xs : List ℕ). t ++ xs) (ap (all_text s) end ∙ no-text s) ∙ append-nil t) ∙ p.text,
    )

-- ---- one read after the other

pub answers-none : (s : State) (a b o : Option (List ℕ)) → Consumes a b [] → Answers s s a b o o
answers-none s a b o none = ([], none, subst (Appends o o) (sym (no-text s)) (Appends-nil o), sym (no-octet s))

state-more : (s : State) (xs ys : List ℕ) → all_passed s (xs ++ ys) ≡ all_passed (all_passed s xs) ys
unfolding all_passed
state-more s xs ys = run-append octet_passed xs ys s

text-more : (s : State) (xs ys : List ℕ) → all_text s (xs ++ ys) ≡ all_text s xs ++ all_text (all_passed s xs) ys
unfolding all_passed all_text
text-more s xs ys = outs-append octet_passed octet_text xs ys s

-- what a read and its lines do after those before them
pub answers-more : (s₀ s s' : State) (a b c o p q : Option (List ℕ)) (ys : List ℕ) → Answers s₀ s a b o p
    → Consumes b c ys → Appends p q (all_text s ys) → s' ≡ all_passed s ys → Answers s₀ s' a c o q
answers-more s₀ s s' a b c o p q ys (xs, first, wrote, held) second more last = (
  xs ++ ys,
  Consumes-trans a b c xs ys first second,
  subst (Appends o q) (ap (λ (x : State). all_text s₀ xs ++ all_text x ys) held ∙ sym (text-more s₀ xs ys)) (Appends-trans o p q _ _ wrote more),
  last ∙ ap (λ (x : State). all_passed x ys) held ∙ sym (state-more s₀ xs ys),
)

-- a read that fails gives nothing
pub answers-unread : (s₀ s : State) (a b c o p : Option (List ℕ)) → Answers s₀ s a b o p → Consumes b c [] → Answers s₀ s a c o p
answers-unread s₀ s a b c o p (xs, first, wrote, held) none = (xs, subst (Consumes a c) (append-nil xs) (Consumes-trans a b c xs [] first none), wrote, held)

-- and the line at the end
pub answers-last : (s₀ s : State) (a b c o p q : Option (List ℕ)) → Answers s₀ s a b o p → Consumes b c [] → Appends p q (line_text s) → AnswersAll s₀ a c o q
answers-last s₀ s a b c o p q (xs, first, wrote, held) none more = (
  xs,
  subst (Consumes a c) (append-nil xs) (Consumes-trans a b c xs [] first none),
  Appends-trans o p q _ _ wrote (subst (λ (x : State). Appends p q (line_text x)) held more),
)

-- all of the input, where it is known
whole-is : (s : State) (a b o q : Option (List ℕ)) → s ≡ start → AnswersAll s a b o q → IsAtEnd b → IfSome a (λ octets. Appends o q (session_text octets))
unfolding session_text
whole-is s None b o q begins (xs, read, wrote) end = tt
whole-is s (Some ys) None o q begins (xs, read, wrote) end = absurd read
whole-is s (Some ys) (Some zs) o q begins (xs, read, wrote) end =
    let all : ys ≡ xs = read ∙ ap (λ (x : List ℕ). xs ++ x) end ∙ append-nil xs in
    subst (Appends o q) (ap₂ (λ (x : State) (l : List ℕ). all_text x l ++ line_text (all_passed x l)) begins (sym all)) wrote

pub whole_ok : {T E : Type 0} (r : Result T E) (s : State) (a b o q : Option (List ℕ)) (n : ℕ) → 0 < n → s ≡ start → OnOk r (AnswersAll s a b o q)
    → OnOk r (0 < n → IsAtEnd b) → OnOk r (IfSome a (λ octets. Appends o q (session_text octets)))
whole_ok (Ok x) s a b o q n room begins all end = whole-is s a b o q begins all (end room)
whole_ok (Err x) s a b o q n room begins all end = all

-- some of it
pub some-is : (s : State) (a b o q : Option (List ℕ)) → s ≡ start → AnswersSome s a b o q → AnswersSome start a b o q
some-is s a b o q begins some = subst (λ (x : State). AnswersSome x a b o q) begins some
