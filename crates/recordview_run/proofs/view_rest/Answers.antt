-- `recordview_run::view_rest` meets its contract: what is written goes behind what was written before it.
use Rattle.recordview_run.proofs.Records.{rest-written}
use Rattle.recordview_run.proofs.view_rest.Goals as goal

pub returns-clause-ok : goal.returns-clause-ok
returns-clause-ok g c =
    rest-written c.args.viewer _ c.args.octets.now _ _ _ _ _ _ c.in_ok-view_records.ensures.viewer c.in_ok-view_records.ensures.lines
    c.in_ok-write_line.ensures.ok c.as_chunks.ensures.back c.in_ok-write_text.ensures.ok c.in_ok-write_text-2.ensures.ok
