-- Each word of a line that is read stands at a place that takes digits and lower-case letters alone.
use Rattle.std.proofs.Common.{◌≡◌, ℕ, ◌+◌, ◌≤◌, zero, suc, Bool, true, false, not, ◌&&◌, cond, eqb, List, [], ◌∷◌, length, drop, refl, sym, ap, ◌∙◌, arith, codes, Some, None}
use borrow.Author.Tests.{eqb-true}
use Rattle.std.specs.List.{slice_get, list_all}
use Rattle.std.specs.Str.{bytes_eq}
use Rattle.std.proofs.Math.ListN.{drop_of_length-le}
use Rattle.std.proofs.lemmas.Option.{none-some, same_Some, option_and_then_some}
use Rattle.board.specs.declared.Settings.{Settings}
use Rattle.board.specs.declared.rows.Row.{Row}
use Rattle.console_words.specs.Words.{words, word_of}
use Rattle.console_numbers.specs.Numbers.{◌>>=◌, decimal_of, octets_of, octets_up_to, mask_of}
use Rattle.console_requests.specs.declared.Area.{Area}
use Rattle.console_requests.specs.declared.Area.TheVariants.{Pool, Descriptors, Records, Output}
use Rattle.console_requests.specs.declared.Request.{Request}
use Rattle.console_requests.specs.declared.Request.TheVariants as requests
use Rattle.console_requests.specs.declared.grammar.Verb.{Verb}
use Rattle.console_requests.specs.declared.grammar.Verb.TheVariants as verbs
use Rattle.console_requests.specs.Areas as areas
use Rattle.console_requests.specs.Areas.{area_of, most_of, number_at, size_of, poke_of}
use Rattle.console_requests.specs.Bookings.{switched, switched_all, booking_at, open_of, row_of}
use Rattle.console_requests.specs.Requests.{name_of, all_verbs, verb_of, takes, with_number, with_octets, asked_of, request_of}
use Rattle.console_readback.specs.Plain.{is_plain_word, PlainWordsOnly}
use Rattle.console_readback.proofs.Printed.{both}
use Rattle.console_readback.proofs.PlainWords.{if_some, map_some, found, same_word, plain_number, plain_octets}

-- the word at a place, if there is one, is plain
abbrev Plain : List (List ℕ) → ℕ → Type 0
Plain ws i = (w : List ℕ) → slice_get ws i ≡ Some w → is_plain_word w ≡ true

-- all from a place on are plain
abbrev all_from : ℕ → List (List ℕ) → Bool
all_from i ws = list_all is_plain_word (drop i ws)

step : (ws : List (List ℕ)) (i : ℕ) → Plain ws i → all_from (suc i) ws ≡ true → all_from i ws ≡ true
step [] zero g h = refl
step [] (suc i) g h = refl
step (w ∷ ws) zero g h = both _ _ (g w refl) h
step (w ∷ ws) (suc i) g h = step ws i g h

end : (ws : List (List ℕ)) (n : ℕ) → eqb (length ws) n ≡ true → all_from n ws ≡ true
end ws n h = let past : length ws ≤ n = omega (arith, eqb-true (length ws) n h) in rw (drop_of_length-le ws past) refl

-- a word that is the one at its place
here : (ws : List (List ℕ)) (i : ℕ) (v : List ℕ) → slice_get ws i ≡ Some v → is_plain_word v ≡ true → Plain ws i
here ws i v e h w f = ap is_plain_word (sym (same_Some v w (sym e ∙ f))) ∙ h

number_here : (line : List ℕ) (i n : ℕ) → number_at line i ≡ Some n → Plain (words line) i
unfolding number_at word_of
number_here line i n e =
    option_and_then_some decimal_of (slice_get (words line) i) n e (λ v ev fv. here (words line) i v ev (plain_number v n fv))

plain_area : (area : Area) → is_plain_word (areas.name_of area) ≡ true
plain_area Pool = refl
plain_area Descriptors = refl
plain_area Records = refl
plain_area Output = refl

area_plain : (v : List ℕ) (area : Area) → area_of v ≡ Some area → is_plain_word v ≡ true
unfolding area_of
area_plain v area e =
    ap is_plain_word (sym (same_word (areas.name_of area) v (found (λ (a : Area). bytes_eq (areas.name_of a) v) (Pool ∷ Descriptors ∷ Records ∷ Output ∷ []) area e))) ∙ plain_area area

plain_verb : (verb : Verb) → is_plain_word (name_of verb) ≡ true
plain_verb verbs.Open = refl
plain_verb verbs.Row = refl
plain_verb verbs.Receive = refl
plain_verb verbs.Command = refl
plain_verb verbs.Clear = refl
plain_verb verbs.Send = refl
plain_verb verbs.Fill = refl
plain_verb verbs.Read = refl
plain_verb verbs.Hand = refl
plain_verb verbs.Wipe = refl
plain_verb verbs.Size = refl
plain_verb verbs.Poke = refl
plain_verb verbs.Show = refl
plain_verb verbs.Slots = refl
plain_verb verbs.Help = refl

verb_plain : (v : List ℕ) (verb : Verb) → verb_of v ≡ Some verb → is_plain_word v ≡ true
unfolding verb_of
verb_plain v verb e =
    ap is_plain_word (sym (same_word (name_of verb) v (found (λ (a : Verb). bytes_eq (name_of a) v) all_verbs verb e))) ∙ plain_verb verb

octets_here : (line : List ℕ) (most : ℕ) (request r : Request) → with_octets line most request ≡ Some r → Plain (words line) 1
unfolding with_octets word_of octets_up_to
octets_here line most request r e =
    option_and_then_some _ (slice_get (words line) 1) r e
    (λ v ev fv. let some = map_some _ _ r fv in
    option_and_then_some _ (octets_of v) some.0 some.1 (λ os eo fo. here (words line) 1 v ev (plain_octets v os eo)))

-- ---- switches
switch_plain : (s t : Settings) (w : List ℕ) → switched s w ≡ Some t → is_plain_word w ≡ true
unfolding switched
switch_plain s t w e = go (bytes_eq w (codes "filter")) (bytes_eq w (codes "itu")) (bytes_eq w (codes "orn")) refl refl refl e
  where
    is : (name : List ℕ) → bytes_eq w name ≡ true → is_plain_word name ≡ true → is_plain_word w ≡ true
    is name h p = ap is_plain_word (same_word w name h) ∙ p

    go : (f i o : Bool) → bytes_eq w (codes "filter") ≡ f → bytes_eq w (codes "itu") ≡ i → bytes_eq w (codes "orn") ≡ o
        → cond (f && not s.filter) (Some (record s { filter = true })) (cond (i && not s.itu) (Some (record s { itu = true })) (cond (o && not s.orn) (Some (record s { orn = true })) None)) ≡ Some t
        → is_plain_word w ≡ true
    go true i o h k l e = is (codes "filter") h refl
    go false true o h k l e = is (codes "itu") k refl
    go false false true h k l e = is (codes "orn") l refl
    go false false false h k l e = absurd (none-some t e)

switches_plain : (ws : List (List ℕ)) (s t : Settings) → switched_all s ws ≡ Some t → list_all is_plain_word ws ≡ true
unfolding switched_all
switches_plain [] s t e = refl
switches_plain (w ∷ ws) s t e =
    option_and_then_some _ (switched s w) t e (λ n en fn. both _ _ (switch_plain s n w en) (switches_plain ws n t fn))

mask_plain : (v m : List ℕ) → mask_of v ≡ Some m → is_plain_word v ≡ true
unfolding mask_of
mask_plain v m e = option_and_then_some _ (octets_of v) m e (λ os eo fo. plain_octets v os eo)

booking_plain : (line : List ℕ) (i k : ℕ) (row : Row) (s : Settings) → booking_at line i k row ≡ Some s → all_from (i + 1) (words line) ≡ true × Plain (words line) i
unfolding booking_at word_of
booking_plain line i k row s e =
    option_and_then_some _ (slice_get (words line) i) s e
    (λ v ev fv. option_and_then_some _ (mask_of v) s fv
    (λ m em fm. (switches_plain (drop (i + 1) (words line)) _ s fm, here (words line) i v ev (mask_plain v m em))))

-- ---- a verb's line
module _ (line : List ℕ) (r : Request) (name : Plain (words line) 0) where
  two : Plain (words line) 1 → eqb (length (words line)) 2 ≡ true → list_all is_plain_word (words line) ≡ true
  two g h = step (words line) 0 name (step (words line) 1 g (end (words line) 2 h))

  one_number : (request : ℕ → Request) → with_number line request ≡ Some r → eqb (length (words line)) 2 ≡ true → list_all is_plain_word (words line) ≡ true
  one_number request e h = let n = map_some request (number_at line 1) r e in two (number_here line 1 n.0 n.1) h

  alone : eqb (length (words line)) 1 ≡ true → list_all is_plain_word (words line) ≡ true
  alone h = step (words line) 0 name (end (words line) 1 h)

  open_plain : (s : Settings) → open_of line ≡ Some s → list_all is_plain_word (words line) ≡ true
  unfolding open_of
  open_plain s e =
      option_and_then_some _ (number_at line 1) s e (λ k ek fk.
      option_and_then_some _ (number_at line 2) s fk (λ m em fm.
      option_and_then_some _ (number_at line 3) s fm (λ n en fn.
      option_and_then_some _ (number_at line 4) s fn (λ t et ft.
      option_and_then_some _ (number_at line 5) s ft (λ d ed fd.
      option_and_then_some _ (number_at line 6) s fd (λ a ea fa.
      let b = booking_plain line 7 k _ s fa in
      step (words line) 0 name
      (step (words line) 1 (number_here line 1 k ek)
      (step (words line) 2 (number_here line 2 m em)
      (step (words line) 3 (number_here line 3 n en)
      (step (words line) 4 (number_here line 4 t et)
      (step (words line) 5 (number_here line 5 d ed)
      (step (words line) 6 (number_here line 6 a ea)
      (step (words line) 7 b.1 b.0)))))))))))))

  row_plain : (s : Settings) → row_of line ≡ Some s → list_all is_plain_word (words line) ≡ true
  unfolding row_of
  row_plain s e =
      option_and_then_some _ (number_at line 1) s e (λ number en fn.
      option_and_then_some _ (number_at line 2) s fn (λ k ek fk.
      let b = booking_plain line 3 k _ s fk in
      step (words line) 0 name
      (step (words line) 1 (number_here line 1 number en)
      (step (words line) 2 (number_here line 2 k ek)
      (step (words line) 3 b.1 b.0)))))

  size_plain : size_of line ≡ Some r → eqb (length (words line)) 3 ≡ true → list_all is_plain_word (words line) ≡ true
  unfolding size_of word_of
  size_plain e h =
      option_and_then_some _ (slice_get (words line) 1) r e (λ v ev fv.
      option_and_then_some _ (area_of v) r fv (λ area ea fa.
      option_and_then_some _ (number_at line 2) r fa (λ n en fn.
      step (words line) 0 name
      (step (words line) 1 (here (words line) 1 v ev (area_plain v area ea))
      (step (words line) 2 (number_here line 2 n en)
      (end (words line) 3 h))))))

  poke_plain : poke_of line ≡ Some r → eqb (length (words line)) 4 ≡ true → list_all is_plain_word (words line) ≡ true
  unfolding poke_of word_of
  poke_plain e h =
      option_and_then_some _ (slice_get (words line) 1) r e (λ v ev fv.
      option_and_then_some _ (area_of v) r fv (λ area ea fa.
      option_and_then_some _ (number_at line 2) r fa (λ place ep fp.
      option_and_then_some _ (number_at line 3) r fp (λ value ew fw.
      step (words line) 0 name
      (step (words line) 1 (here (words line) 1 v ev (area_plain v area ea))
      (step (words line) 2 (number_here line 2 place ep)
      (step (words line) 3 (number_here line 3 value ew)
      (end (words line) 4 h))))))))

  asked_plain : (verb : Verb) → takes verb (length (words line)) ≡ true → asked_of line verb ≡ Some r → list_all is_plain_word (words line) ≡ true
  asked_plain verbs.Open h e = let s = map_some _ (open_of line) r e in open_plain s.0 s.1
  asked_plain verbs.Row h e = let s = map_some _ (row_of line) r e in row_plain s.0 s.1
  asked_plain verbs.Receive h e = two (octets_here line _ _ r e) h
  asked_plain verbs.Command h e = one_number _ e h
  asked_plain verbs.Clear h e = one_number _ e h
  asked_plain verbs.Send h e = two (octets_here line _ _ r e) h
  asked_plain verbs.Fill h e = alone h
  asked_plain verbs.Read h e = one_number _ e h
  asked_plain verbs.Hand h e = one_number _ e h
  asked_plain verbs.Wipe h e = alone h
  asked_plain verbs.Size h e = size_plain e h
  asked_plain verbs.Poke h e = poke_plain e h
  asked_plain verbs.Show h e = alone h
  asked_plain verbs.Slots h e = alone h
  asked_plain verbs.Help h e = alone h

auto_plain : list_all is_plain_word (words (codes "size auto")) ≡ true
unfolding words
auto_plain = refl

pub plain-words-only : PlainWordsOnly
unfolding request_of word_of
plain-words-only line request c e = go (bytes_eq line (codes "size auto")) refl (rw c at e)
  where
    go : (b : Bool) → bytes_eq line (codes "size auto") ≡ b
        → cond b (Some requests.SizeAuto) (slice_get (words line) 0 >>= λ (v : List ℕ). verb_of v >>= λ (verb : Verb). cond (takes verb (length (words line))) (asked_of line verb) None) ≡ Some request
        → list_all is_plain_word (words line) ≡ true
    go true h f = ap (λ (l : List ℕ). list_all is_plain_word (words l)) (same_word line (codes "size auto") h) ∙ auto_plain
    go false h f =
        option_and_then_some _ (slice_get (words line) 0) request f (λ v ev fv.
        option_and_then_some _ (verb_of v) request fv (λ verb eb fb.
        let t = if_some (takes verb (length (words line))) (asked_of line verb) request fb in
        asked_plain line request (here (words line) 0 v ev (verb_plain v verb eb)) verb t.0 t.1))
