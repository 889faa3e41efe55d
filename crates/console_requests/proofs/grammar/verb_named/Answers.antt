-- `grammar::verb_named` meets its contract: the verbs are looked through in their order.
use Rattle.std.proofs.Common.{rules, ◌∙◌}
use Rattle.std.specs.Str.{bytes_eq}
use Rattle.std.proofs.lemmas.Iterator.{YieldsList-from_slice}
use Rattle.std.proofs.lemmas.Iterator.Search.{find_from_yields_List}
use Rattle.console_requests.specs.declared.grammar.Verb.{Verb}
use Rattle.console_requests.specs.Requests.{name_of, all_verbs, verb_of}
use Rattle.console_requests.proofs.grammar.verb_named.Goals as goal

pub returns : goal.returns
unfolding verb_of
returns c =
    let word = c.args.word.now in
    c.copied.ensures ∙ find_from_yields_List (λ (verb : Verb). bytes_eq (name_of verb) word) _ _ c.find.result c.find.ensures.ran (YieldsList-from_slice all_verbs c.iter.ensures.rest) (λ x b q k. search rules)
