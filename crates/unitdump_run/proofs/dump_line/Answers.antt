-- `unitdump_run::dump_line` meets its contract: the header, then all of the input.
use borrow.Author.Rules.{rules}
use Rattle.std.proofs.lemmas.Result.{on_ok_weaker}
use Rattle.unitdump_run.proofs.Dumping.{dumped-file, whole-file}
use Rattle.unitdump_run.proofs.dump_line.Goals as goal

pub returns-clause-dumped : goal.returns-clause-dumped
returns-clause-dumped g c written = dumped-file _ _ _ _ _ _ _ c.begin-dump.ensures c.file_header.ensures c.in_ok-write_out.ensures.ok (c.run.ensures.dumped written)

pub returns-clause-whole : goal.returns-clause-whole
returns-clause-whole g c =
    whole-file c.run.result _ _ _ _ (λ written. dumped-file _ _ _ _ _ _ _ c.begin-dump.ensures c.file_header.ensures c.in_ok-write_out.ensures.ok (c.run.ensures.dumped written))
    (on_ok_weaker c.run.result (λ end. end (search rules)) c.run.ensures.end)
