-- "Each call prints its name and number, then what else it answers, on one line": what each makes of the console, by the call's own definition
-- on the memory that is lent.
use Rattle.std.specs.Prelude.{ℕ, List, take, codes}
use Rattle.board.specs.declared.Settings.{Settings}
use Rattle.link.specs.Refusals.{read_number}
use Rattle.link.specs.Calls.{wipe_answer, command_answer, clear_answer, read_part}
use Rattle.console_board.specs.Lent.{pool_lent, words_lent}
use Rattle.console_board.specs.Calls.{opened, handed, received, sent, filled}
use Rattle.console_print.specs.Answers.{done_line, wiped_line, received_lines, made_line, read_line}
use Rattle.console_calls.specs.Console.{Console, Printed, printed}

unfoldable pub opening : Console → Settings → Printed
opening c s =
    let o = opened c.link c.sizes s c.pool c.descriptors in
    printed (record c { link = o.link; pool = o.pool; descriptors = o.descriptors }) (done_line (codes "open") o.number)

unfoldable pub receiving : Console → List ℕ → Printed
receiving c octets =
    let o = received c.link c.sizes octets c.pool c.descriptors c.records in
    printed (record c { link = o.link; pool = o.pool; descriptors = o.descriptors; records = o.records }) (received_lines o.number o.count o.records)

unfoldable pub commanding : Console → ℕ → Printed
commanding c n = let o = command_answer c.link n in printed (record c { link = o.link }) (done_line (codes "command") o.number)

unfoldable pub clearing : Console → ℕ → Printed
clearing c chosen = let o = clear_answer c.link chosen in printed (record c { link = o.link }) (done_line (codes "clear") o.number)

unfoldable pub sending : Console → List ℕ → Printed
sending c content =
    let o = sent c.link c.sizes content c.output in
    printed (record c { link = o.link; output = o.output }) (made_line (codes "send") o.number (take o.count o.output))

unfoldable pub filling : Console → Printed
filling c =
    let o = filled c.link c.sizes c.output in
    printed (record c { link = o.link; output = o.output }) (made_line (codes "fill") o.number (take o.count o.output))

unfoldable pub reading : Console → ℕ → Printed
reading c slot =
    let pool = take (pool_lent c.sizes c.link.settings.k c.pool) c.pool in
    let descriptors = take (words_lent c.sizes c.link.settings.k c.descriptors) c.descriptors in
    printed c (read_line (read_number c.link pool descriptors slot) (read_part c.link pool descriptors slot))

unfoldable pub handing : Console → ℕ → Printed
handing c slot =
    let o = handed c.link c.sizes c.pool c.descriptors slot in
    printed (record c { link = o.link; pool = o.pool; descriptors = o.descriptors }) (done_line (codes "hand") o.number)

-- "`wipe` wipes all of pool and descriptors"
unfoldable pub wiping : Console → Printed
wiping c =
    let o = wipe_answer c.pool c.descriptors in
    printed (record c { link = o.link; pool = o.octets; descriptors = o.words }) wiped_line
