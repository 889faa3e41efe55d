-- `console_words::word` meets its contract: the iterator gives the words, and `nth` the one that is asked for.
use Rattle.std.proofs.Common.{rules, nat_eq}
use Rattle.std.proofs.lemmas.Iterator.Consumers.{nth_from_yields_List}
use Rattle.std.proofs.lemmas.Iterator.Splits.{YieldsList-from_slice_split}
use Rattle.console_words.specs.Words.{words, word_of}
use Rattle.console_words.proofs.word.Goals as goal

pub returns : goal.returns
unfolding words word_of
returns c =
    nth_from_yields_List _ _ _ c.nth.ensures.ran
    (YieldsList-from_slice_split _ (λ octet. nat_eq octet 32) c.args.line.now c.split.ensures.rest c.split.ensures.done c.split.ensures.closure (λ x b q k. search rules))
