-- `console_words::word_count` meets its contract: the iterator gives the words, and `count` says how many.
use Rattle.std.proofs.Common.{rules, nat_eq}
use Rattle.std.proofs.lemmas.Iterator.Consumers.{count_from_yields_List}
use Rattle.std.proofs.lemmas.Iterator.Splits.{YieldsList-from_slice_split}
use Rattle.console_words.specs.Words.{words}
use Rattle.console_words.proofs.word_count.Goals as goal

pub returns : goal.returns
unfolding words
returns c =
    count_from_yields_List c.split.result _ c.count.ensures.ran
    (YieldsList-from_slice_split _ (λ octet. nat_eq octet 32) c.args.line.now c.split.ensures.rest c.split.ensures.done c.split.ensures.closure (λ x b q k. search rules))
