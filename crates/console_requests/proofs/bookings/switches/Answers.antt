-- `bookings::switches` meets its contract: word after word turns a switch on.
use Rattle.std.proofs.Common.{◌<◌, ◌≤◌, ◌∙◌, arith, length}
use Rattle.console_words.specs.Words.{words}
use Rattle.console_requests.proofs.Switches.{next, refused, some_word, done}
use Rattle.console_requests.proofs.bookings.switches.Goals as goal

pub returns-in_err-word : goal.returns-in_err-word
returns-in_err-word c =
    let below : c.loop-at.at < length (words c.args.line.now) = omega (arith, c.word_count-at-end.ensures) in
    absurd (some_word c.args.line.now c.loop-at.at c.loop-at.on below c.in_err-word.ensures)

pub returns-in_err-on : goal.returns-in_err-on
returns-in_err-on c =
    c.from_residual-in_err-on.ensures ∙ refused c.args.line.now c.loop-at.at c.loop-at.on c.in_ok-word.field-0.now c.in_ok-word.ensures c.in_err-on.ensures ∙ c.loop-at.invariant

pub loop-at-preserved : goal.loop-at-preserved
loop-at-preserved c =
    next c.args.line.now c.loop-at.at c.loop-at.on c.in_ok-word.field-0.now c.in_ok-on.on c.in_ok-word.ensures c.in_ok-on.ensures ∙ c.loop-at.invariant

pub returns : goal.returns
returns c =
    let past : length (words c.args.line.now) ≤ c.loop-at.at = omega (arith, c.word_count-at-end.ensures) in
    done c.args.line.now c.loop-at.at c.loop-at.on past ∙ c.loop-at.invariant
