-- `console_numbers::decimal` meets its contract: digits are text, and what `parse` gives of them is their number.
use Rattle.std.proofs.Common.{rules, tests, ◌≡◌, sym, ◌∙◌, subst, List, ℕ}
use Rattle.std.specs.Char.{is_ascii_digit}
use Rattle.std.specs.List.{list_all}
use Rattle.std.specs.Str.Parse.{ParsesUnsigned}
use Rattle.std.proofs.lemmas.Iterator.{YieldsList-from_slice}
use Rattle.std.proofs.lemmas.Iterator.Search.{all_from_yields_List}
use Rattle.console_numbers.proofs.Decimals.{no_digits, digits-read, digits-refused, digits-parsed}
use Rattle.console_numbers.proofs.decimal.Goals as goal

pub returns-then-not-all : goal.returns-then-not-all
returns-then-not-all c =
    let all : c.all.result ≡ list_all is_ascii_digit c.args.word.now = all_from_yields_List is_ascii_digit _ _ c.all.result c.all.ensures.ran (YieldsList-from_slice c.args.word.now c.iter.ensures.rest) (λ x b q k. search (rules, tests)) in
    no_digits c.args.word.now (sym all ∙ c.if-not-all.true)

pub returns-in_err-ok : goal.returns-in_err-ok
returns-in_err-ok c =
    let all : c.all.result ≡ list_all is_ascii_digit c.args.word.now = all_from_yields_List is_ascii_digit _ _ c.all.result c.all.ensures.ran (YieldsList-from_slice c.args.word.now c.iter.ensures.rest) (λ x b q k. search (rules, tests)) in
    absurd (digits-refused c.args.word.now _ c.from_utf8.result (sym all ∙ c.if-not-all.false) c.from_utf8.ensures.cases (sym c.ok.ensures.value ∙ c.in_err-ok.was))

pub returns : goal.returns
returns c =
    let word = c.args.word.now in
    let all : c.all.result ≡ list_all is_ascii_digit word = all_from_yields_List is_ascii_digit _ _ c.all.result c.all.ensures.ran (YieldsList-from_slice word c.iter.ensures.rest) (λ x b q k. search (rules, tests)) in
    let text = digits-read word _ c.from_utf8.result c.in_ok-ok.field-0 c.from_utf8.ensures.cases (sym c.ok.ensures.value ∙ c.in_ok-ok.was) in
    digits-parsed word c.parse.result _ (sym all ∙ c.if-not-all.false) (subst (λ (t : List ℕ). ParsesUnsigned 16 10 t c.parse.result) text c.parse.ensures.value.0) c.ok-2.ensures.value
