-- `console_numbers::mask` meets its contract: just five octets are written, and no other is left.
use Rattle.std.proofs.Common.{ap, ◌∙◌, eqb}
use Rattle.std.specs.Bool.{then_some}
use Rattle.console_numbers.proofs.Five.{five, none}
use Rattle.console_numbers.proofs.mask.Goals as goal

pub returns-in_err-count : goal.returns-in_err-count
returns-in_err-count c = c.from_residual.ensures ∙ none c.args.word.now c.in_err-count.ensures.value

pub returns : goal.returns
returns c =
    let count = c.in_ok-count.count in
    c.then_some.ensures ∙ ap (then_some (eqb count 5)) c.in_ok-count.ensures.after ∙ five c.args.word.now count c.in_ok-count.ensures.value
