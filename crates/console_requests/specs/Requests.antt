-- What a line asks for, by the grammar that `help` prints, in its order.
use Rattle.std.specs.Prelude.{ℕ, Bool, true, List, [], ◌∷◌, find, Option, Some, None, ◌==◌, if◌then◌else◌, length, codes, option_map}
use Rattle.std.specs.Str.{bytes_eq}
use Rattle.console_words.specs.Words.{words, word_of}
use Rattle.console_numbers.specs.Numbers.{◌>>=◌, octets_up_to}
use Rattle.console_requests.specs.declared.grammar.Verb.{Verb}
use Rattle.console_requests.specs.declared.grammar.Verb.TheVariants as verbs
use Rattle.console_requests.specs.declared.Request.{Request}
use Rattle.console_requests.specs.declared.Request.TheVariants as requests
use Rattle.console_requests.specs.Areas.{number_at, size_of, poke_of}
use Rattle.console_requests.specs.Bookings.{open_of, row_of}

abbrev pub name_of : Verb → List ℕ
name_of verbs.Open = codes "open"
name_of verbs.Row = codes "row"
name_of verbs.Receive = codes "receive"
name_of verbs.Command = codes "command"
name_of verbs.Clear = codes "clear"
name_of verbs.Send = codes "send"
name_of verbs.Fill = codes "fill"
name_of verbs.Read = codes "read"
name_of verbs.Hand = codes "hand"
name_of verbs.Wipe = codes "wipe"
name_of verbs.Size = codes "size"
name_of verbs.Poke = codes "poke"
name_of verbs.Show = codes "show"
name_of verbs.Slots = codes "slots"
name_of verbs.Help = codes "help"

abbrev pub all_verbs : List Verb
all_verbs =
    verbs.Open ∷ verbs.Row
    ∷ verbs.Receive ∷ verbs.Command ∷ verbs.Clear ∷ verbs.Send ∷ verbs.Fill ∷ verbs.Read ∷ verbs.Hand ∷ verbs.Wipe
    ∷ verbs.Size
    ∷ verbs.Poke
    ∷ verbs.Show ∷ verbs.Slots ∷ verbs.Help ∷ []

-- the verb that a word names
unfoldable pub verb_of : List ℕ → Option Verb
verb_of word = find (λ verb. bytes_eq (name_of verb) word) all_verbs

-- whether a line of a verb may have so many words; of open and row each word behind the mask must name a switch
abbrev pub takes : Verb → ℕ → Bool
takes verbs.Open words = true
takes verbs.Row words = true
takes verbs.Receive words = words == 2
takes verbs.Command words = words == 2
takes verbs.Clear words = words == 2
takes verbs.Send words = words == 2
takes verbs.Fill words = words == 1
takes verbs.Read words = words == 2
takes verbs.Hand words = words == 2
takes verbs.Wipe words = words == 1
takes verbs.Size words = words == 3
takes verbs.Poke words = words == 4
takes verbs.Show words = words == 1
takes verbs.Slots words = words == 1
takes verbs.Help words = words == 1

-- "a receive of up to 1,100 octets and a send of up to 300"
abbrev pub most_receive : ℕ
most_receive = 1100

abbrev pub most_send : ℕ
most_send = 300

-- a request whose octets are word 1, if that says so many at most
unfoldable pub with_octets : List ℕ → ℕ → Request → Option Request
with_octets line most request = word_of line 1 >>= λ hex. option_map (λ octets. request) (octets_up_to most hex)

-- a request with the number that is word 1
abbrev pub with_number : List ℕ → (ℕ → Request) → Option Request
with_number line request = option_map request (number_at line 1)

abbrev pub asked_of : List ℕ → Verb → Option Request
asked_of line verbs.Open = option_map requests.Open (open_of line)
asked_of line verbs.Row = option_map requests.Row (row_of line)
asked_of line verbs.Receive = with_octets line most_receive requests.Receive
asked_of line verbs.Command = with_number line requests.Command
asked_of line verbs.Clear = with_number line requests.Clear
asked_of line verbs.Send = with_octets line most_send requests.Send
asked_of line verbs.Fill = Some requests.Fill
asked_of line verbs.Read = with_number line requests.Read
asked_of line verbs.Hand = with_number line requests.Hand
asked_of line verbs.Wipe = Some requests.Wipe
asked_of line verbs.Size = size_of line
asked_of line verbs.Poke = poke_of line
asked_of line verbs.Show = Some requests.Show
asked_of line verbs.Slots = Some requests.Slots
asked_of line verbs.Help = Some requests.Help

-- "an empty line prints nothing", "`#` starts a comment line"
abbrev pub asks_nothing : List ℕ → Bool
asks_nothing [] = true
asks_nothing (x ∷ xs) = x == 35

unfoldable pub request_of : List ℕ → Option Request
request_of line =
    if asks_nothing line then Some requests.Nothing
    else (if bytes_eq line (codes "size auto") then Some requests.SizeAuto
    else (do
      word ← word_of line 0
      verb ← verb_of word
      if takes verb (length (words line)) then asked_of line verb else None))
