-- What a line does to the console and prints.
use Rattle.std.specs.Prelude.{ℕ, List, [], Option, Some, None, take, slice_set}
use Rattle.console_words.specs.Words.{word_of}
use Rattle.console_numbers.specs.Numbers.{◌>>=◌, octets_up_to}
use Rattle.console_requests.specs.declared.Area.{Area}
use Rattle.console_requests.specs.declared.Area.TheVariants as areas
use Rattle.console_requests.specs.declared.Request.{Request}
use Rattle.console_requests.specs.declared.Request.TheVariants as requests
use Rattle.console_requests.specs.Requests.{request_of, most_receive, most_send}
use Rattle.console_board.specs.declared.Sizes.{Sizes}
use Rattle.console_board.specs.Lent.{auto, pool_lent, words_lent}
use Rattle.console_print.specs.Answers.{unreadable_line}
use Rattle.console_print.specs.Fields.{link_lines}
use Rattle.console_print.specs.Slots.{slot_lines}
use Rattle.console_print.specs.Grammar.{help_lines}
use Rattle.console_calls.specs.Console.{Console, Printed, printed}
use Rattle.console_calls.specs.Answers.{opening, receiving, commanding, clearing, sending, filling, reading, handing, wiping}

abbrev pub octets_or_none : Option (List ℕ) → List ℕ
octets_or_none (Some octets) = octets
octets_or_none None = []

-- the octets that word 1 of a line says
unfoldable pub octets_said : ℕ → List ℕ → List ℕ
octets_said most line = octets_or_none (word_of line 1 >>= octets_up_to most)

-- "`size` fixes how much of an area is lent from then on"
abbrev pub sized : Sizes → Area → ℕ → Sizes
sized s areas.Pool n = record s { pool = Some n }
sized s areas.Descriptors n = record s { descriptors = Some n }
sized s areas.Records n = record s { records = Some n }
sized s areas.Output n = record s { output = Some n }

-- "each slot that is lent"
abbrev pub slots_shown : Console → List ℕ
slots_shown c =
    slot_lines (take (pool_lent c.sizes c.link.settings.k c.pool) c.pool) (take (words_lent c.sizes c.link.settings.k c.descriptors) c.descriptors)

-- what a request does and prints
unfoldable pub asked : Console → List ℕ → Request → Printed
asked c line requests.Nothing = printed c []
asked c line (requests.Open s) = opening c s
asked c line (requests.Row s) = opening c s
asked c line requests.Receive = receiving c (octets_said most_receive line)
asked c line (requests.Command n) = commanding c n
asked c line (requests.Clear chosen) = clearing c chosen
asked c line requests.Send = sending c (octets_said most_send line)
asked c line requests.Fill = filling c
asked c line (requests.Read slot) = reading c slot
asked c line (requests.Hand slot) = handing c slot
asked c line requests.Wipe = wiping c
asked c line (requests.Size area n) = printed (record c { sizes = sized c.sizes area n }) []
asked c line requests.SizeAuto = printed (record c { sizes = auto }) []
asked c line (requests.PokePool i octet) = printed (record c { pool = slice_set c.pool i octet }) []
asked c line (requests.PokeDescriptor i word) = printed (record c { descriptors = slice_set c.descriptors i word }) []
asked c line requests.Show = printed c (link_lines c.link)
asked c line requests.Slots = printed c (slots_shown c)
asked c line requests.Help = printed c help_lines

-- "A line that can't be read prints `? LINE-NUMBER` and changes nothing."
abbrev pub asked_or_not : Console → ℕ → List ℕ → Option Request → Printed
asked_or_not c number line (Some r) = asked c line r
asked_or_not c number line None = printed c (unreadable_line number)

unfoldable pub answered : Console → ℕ → List ℕ → Printed
answered c number line = asked_or_not c number line (request_of line)
