-- `console_numbers::hex_len` meets its contract: the octets so far and those that are left to be said are all.
use Rattle.std.proofs.Common.{ap, ◌∙◌, Bool, arith}
use Rattle.std.specs.Bool.{then_some}
use Rattle.std.proofs.lemmas.Bool.Decides.{nat_tests}
use Rattle.console_numbers.proofs.Pairs.{next, none_read, some_read}
use Rattle.console_numbers.proofs.hex_len.Goals as goal
use Rattle.console_numbers.proofs.hex_len.Goals.{then-count-gt0, else-count-gt0}

pub loop-rest-preserved : goal.loop-rest-preserved
loop-rest-preserved c = next c.args.word.now c.loop-rest.left.now c.loop-rest.count c.loop-rest.invariant _ _ c.in-Some.ensures

pub returns : goal.returns
returns c =
    let l = c.loop-rest in
    elim c.if-count-gt0.branch [
      | then-count-gt0 w ↦ c.then_some.ensures ∙ ap (λ (b : Bool). then_some b l.count) (w.then_some-is ∙ w.is_empty.ensures) ∙ some_read c.args.word.now l.left.now l.count l.invariant c.in_default.ensures w.if-count-gt0.true
      | else-count-gt0 w ↦ let e = none_read c.args.word.now l.left.now l.count l.invariant c.in_default.ensures w.if-count-gt0.false in grind (arith, nat_tests, e)
    ]
