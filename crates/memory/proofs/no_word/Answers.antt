-- `memory::no_word` meets its contract: all words or-ed decide.
use Rattle.std.proofs.Common.{rules, ◌≡◌, bit_or}
use Rattle.std.specs.List.{fold}
use Rattle.memory.proofs.Loops.{or_fold}
use Rattle.memory.proofs.no_word.Goals as goal

pub returns : goal.returns
returns c = let e : c.fold.result ≡ fold bit_or 0 c.args.words.now = search rules in rw e (or_fold 0 c.args.words.now)
