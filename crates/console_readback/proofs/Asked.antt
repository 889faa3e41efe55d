-- Each request is asked for by its line.
use Rattle.std.proofs.Common.{◌≡◌, ℕ, ◌<◌, ◌≤◌, suc, true, false, List, [], ◌∷◌, length, refl, ap, ◌∙◌, arith, codes, Some, decimal}
use borrow.Author.Tests.{le-leb, lt-ltb}
use Rattle.std.specs.List.{slice_get}
use Rattle.std.specs.Option.{option_map}
use Rattle.std.specs.Str.{bytes_eq}
use Rattle.text.specs.Hex.{hex_text}
use Rattle.console_words.specs.Words.{words, word_of}
use Rattle.console_numbers.specs.Numbers.{octets_up_to}
use Rattle.console_requests.specs.declared.Area.{Area}
use Rattle.console_requests.specs.declared.Area.TheVariants.{Pool, Descriptors, Records, Output}
use Rattle.console_requests.specs.declared.Request.{Request}
use Rattle.console_requests.specs.declared.Request.TheVariants as requests
use Rattle.console_requests.specs.declared.grammar.Verb.{Verb}
use Rattle.console_requests.specs.declared.grammar.Verb.TheVariants as verbs
use Rattle.console_requests.specs.Areas as areas
use Rattle.console_requests.specs.Areas.{area_of, most_of, number_at, size_of, poke_of}
use Rattle.console_requests.specs.Requests.{name_of, verb_of, takes, asks_nothing, with_number, with_octets, asked_of, request_of, most_receive, most_send}
use Rattle.console_readback.specs.Lines.{spaced, AreOctets}
use Rattle.console_readback.specs.Promises.{WholeLinesAsked, NumbersAsked, OctetsAsked, SizesAsked, PokesAsked}
use Rattle.console_readback.proofs.Words.{is_word, words-spaced}
use Rattle.console_readback.proofs.Printed.{both, number-read-back, number_word, octets-read-back, octets_word}

-- a verb is found by its name
named : (verb : Verb) → verb_of (name_of verb) ≡ Some verb
unfolding verb_of
named verbs.Open = refl
named verbs.Row = refl
named verbs.Receive = refl
named verbs.Command = refl
named verbs.Clear = refl
named verbs.Send = refl
named verbs.Fill = refl
named verbs.Read = refl
named verbs.Hand = refl
named verbs.Wipe = refl
named verbs.Size = refl
named verbs.Poke = refl
named verbs.Show = refl
named verbs.Slots = refl
named verbs.Help = refl

-- an area is found by its name
area-named : (area : Area) → area_of (areas.name_of area) ≡ Some area
unfolding area_of
area-named Pool = refl
area-named Descriptors = refl
area-named Records = refl
area-named Output = refl

-- a line that is no comment and not `size auto`, with as many words as its verb takes
pub asked : (line : List ℕ) (verb : Verb) (ws : List (List ℕ)) → asks_nothing line ≡ false → bytes_eq line (codes "size auto") ≡ false → words line ≡ name_of verb ∷ ws → takes verb (suc (length ws)) ≡ true → request_of line ≡ asked_of line verb
unfolding request_of word_of
asked line verb ws c a e t = rw (c, a, e, named verb, t) refl

pub number-at : (line : List ℕ) (i n : ℕ) → slice_get (words line) i ≡ Some (decimal n) → n ≤ 65535 → number_at line i ≡ Some n
unfolding number_at word_of
number-at line i n e l = rw (e, number-read-back n l) refl

pub whole-lines-asked : WholeLinesAsked
unfolding request_of words word_of verb_of
whole-lines-asked = (refl, refl, refl, refl, refl, refl, refl)

-- ---- numbers
numbered : (verb : Verb) (request : ℕ → Request) (n : ℕ) → n ≤ 65535
    → is_word (name_of verb) ≡ true → asks_nothing (spaced (name_of verb ∷ decimal n ∷ [])) ≡ false → bytes_eq (spaced (name_of verb ∷ decimal n ∷ [])) (codes "size auto") ≡ false → takes verb 2 ≡ true
    → asked_of (spaced (name_of verb ∷ decimal n ∷ [])) verb ≡ with_number (spaced (name_of verb ∷ decimal n ∷ [])) request
    → request_of (spaced (name_of verb ∷ decimal n ∷ [])) ≡ Some (request n)
numbered verb request n l w c a t f =
    let line = spaced (name_of verb ∷ decimal n ∷ []) in
    let e : words line ≡ name_of verb ∷ decimal n ∷ [] = words-spaced (name_of verb) (decimal n ∷ []) (both _ _ w (both _ _ (number_word n l) refl)) in
    asked line verb (decimal n ∷ []) c a e t ∙ f ∙ ap (option_map request) (number-at line 1 n (ap (λ (ws : List (List ℕ)). slice_get ws 1) e) l)

pub numbers-asked : NumbersAsked
numbers-asked n l = (
  numbered verbs.Command requests.Command n l refl refl refl refl refl,
  numbered verbs.Clear requests.Clear n l refl refl refl refl refl,
  numbered verbs.Read requests.Read n l refl refl refl refl refl,
  numbered verbs.Hand requests.Hand n l refl refl refl refl refl,
)

-- ---- octets
with-octets : (line octets : List ℕ) (most : ℕ) (request : Request) → word_of line 1 ≡ Some (hex_text octets) → AreOctets octets → 0 < length octets → length octets ≤ most → with_octets line most request ≡ Some request
unfolding with_octets octets_up_to
with-octets line octets most request e h l m = rw (e, octets-read-back octets h l, le-leb (length octets) most m) refl

hex_words : (name octets : List ℕ) → is_word name ≡ true → words (spaced (name ∷ hex_text octets ∷ [])) ≡ name ∷ hex_text octets ∷ []
hex_words name octets w = words-spaced name (hex_text octets ∷ []) (both _ _ w (both _ _ (octets_word octets) refl))

pub octets-asked : OctetsAsked
unfolding word_of
octets-asked octets h l =
    let receive = spaced (codes "receive" ∷ hex_text octets ∷ []) in
    let send = spaced (codes "send" ∷ hex_text octets ∷ []) in
    let r : words receive ≡ codes "receive" ∷ hex_text octets ∷ [] = hex_words (codes "receive") octets refl in
    let s : words send ≡ codes "send" ∷ hex_text octets ∷ [] = hex_words (codes "send") octets refl in (
      λ m. asked receive verbs.Receive (hex_text octets ∷ []) refl refl r refl ∙ with-octets receive octets most_receive requests.Receive (ap (λ (ws : List (List ℕ)). slice_get ws 1) r) h l m,
      λ m. asked send verbs.Send (hex_text octets ∷ []) refl refl s refl ∙ with-octets send octets most_send requests.Send (ap (λ (ws : List (List ℕ)). slice_get ws 1) s) h l m,
    )

-- ---- sizes
sized : (area : Area) (n : ℕ) → n ≤ 65535 → n ≤ most_of area → is_word (areas.name_of area) ≡ true → bytes_eq (spaced (codes "size" ∷ areas.name_of area ∷ decimal n ∷ [])) (codes "size auto") ≡ false
    → request_of (spaced (codes "size" ∷ areas.name_of area ∷ decimal n ∷ [])) ≡ Some (requests.Size area n)
unfolding size_of word_of
sized area n l m w a =
    let line = spaced (codes "size" ∷ areas.name_of area ∷ decimal n ∷ []) in
    let e : words line ≡ codes "size" ∷ areas.name_of area ∷ decimal n ∷ [] = words-spaced (codes "size") (areas.name_of area ∷ decimal n ∷ []) (both _ _ w (both _ _ (number_word n l) refl)) in
    let size : number_at line 2 ≡ Some n = number-at line 2 n (ap (λ (ws : List (List ℕ)). slice_get ws 2) e) l in
    asked line verbs.Size (areas.name_of area ∷ decimal n ∷ []) refl a e refl ∙ rw (size, e, area-named area, le-leb n (most_of area) m) refl

pub sizes-asked : SizesAsked
sizes-asked Pool n l = sized Pool n (omega arith) l refl refl
sizes-asked Descriptors n l = sized Descriptors n (omega arith) l refl refl
sizes-asked Records n l = sized Records n (omega arith) l refl refl
sizes-asked Output n l = sized Output n (omega arith) l refl refl

-- ---- pokes
module _ (area : Area) (place value : ℕ) (p : place ≤ 65535) (v : value ≤ 65535) (m : place < most_of area) (w : is_word (areas.name_of area) ≡ true) where
  poked : request_of (spaced (codes "poke" ∷ areas.name_of area ∷ decimal place ∷ decimal value ∷ [])) ≡ areas.poked area place value
  unfolding poke_of word_of
  poked =
      let line = spaced (codes "poke" ∷ areas.name_of area ∷ decimal place ∷ decimal value ∷ []) in
      let ws = areas.name_of area ∷ decimal place ∷ decimal value ∷ [] in
      let e : words line ≡ codes "poke" ∷ areas.name_of area ∷ decimal place ∷ decimal value ∷ [] = words-spaced (codes "poke") ws (both _ _ w (both _ _ (number_word place p) (both _ _ (number_word value v) refl))) in
      let at : number_at line 2 ≡ Some place = number-at line 2 place (ap (λ (ws : List (List ℕ)). slice_get ws 2) e) p in
      let worth : number_at line 3 ≡ Some value = number-at line 3 value (ap (λ (ws : List (List ℕ)). slice_get ws 3) e) v in
      asked line verbs.Poke ws refl refl e refl ∙ rw (at, worth, e, area-named area, lt-ltb place (most_of area) m) refl

pub pokes-asked : PokesAsked
pokes-asked place value = (
  λ m v. poked Pool place value (omega arith) (omega arith) m refl ∙ rw (lt-ltb value 256 v) refl,
  λ m v. poked Descriptors place value (omega arith) v m refl,
)
