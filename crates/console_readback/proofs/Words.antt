-- Words put together with a space between any two are cut apart again.
use Rattle.std.proofs.Common.{◌≡◌, ℕ, Bool, true, false, not, ◌&&◌, eqb, List, [], ◌∷◌, ◌++◌, refl, ap, ◌∙◌}
use Rattle.std.specs.List.{slice_split, onto_first}
use Rattle.console_words.specs.Words.{words}
use Rattle.console_readback.specs.Lines.{spaced}

-- a word has no space in it
abbrev pub is_word : List ℕ → Bool
is_word [] = true
is_word (x ∷ xs) = not (eqb x 32) && is_word xs

abbrev pub are_words : List (List ℕ) → Bool
are_words [] = true
are_words (w ∷ ws) = is_word w && are_words ws

pub left : (a b : Bool) → a && b ≡ true → a ≡ true
left true b e = refl
left false b e = absurd (cc)

pub right : (a b : Bool) → a && b ≡ true → b ≡ true
right true b e = e
right false b e = absurd (cc)

no_space : (b : Bool) → not b ≡ true → b ≡ false
no_space true e = absurd (cc)
no_space false e = refl

abbrev cut : List ℕ → List (List ℕ)
cut = slice_split (λ (octet : ℕ). eqb octet 32)

last : (w : List ℕ) → is_word w ≡ true → cut w ≡ w ∷ []
last [] h = refl
last (x ∷ w) h = rw (no_space (eqb x 32) (left _ _ h)) (ap (onto_first x) (last w (right _ _ h)))

first : (w rest : List ℕ) → is_word w ≡ true → cut (w ++ 32 ∷ rest) ≡ w ∷ cut rest
first [] rest h = refl
first (x ∷ w) rest h = rw (no_space (eqb x 32) (left _ _ h)) (ap (onto_first x) (first w rest (right _ _ h)))

pub words-spaced : (w : List ℕ) (ws : List (List ℕ)) → are_words (w ∷ ws) ≡ true → words (spaced (w ∷ ws)) ≡ w ∷ ws
unfolding words
words-spaced w ws h = go w ws h
  where
    go : (w : List ℕ) (ws : List (List ℕ)) → are_words (w ∷ ws) ≡ true → cut (spaced (w ∷ ws)) ≡ w ∷ ws
    go w [] h = last w (left _ _ h)
    go w (v ∷ vs) h = first w (spaced (v ∷ vs)) (left _ _ h) ∙ ap (λ (ws : List (List ℕ)). w ∷ ws) (go v vs (right _ _ h))
