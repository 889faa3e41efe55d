-- `recordview_run::view_records` meets its contract: the records that are left, from here on, make up all of them.
use borrow.Author.Rules.{rules}
use Rattle.std.proofs.Common.{ap, ◌∙◌, subst}
use Rattle.std.specs.Io.KnownBytes.{Appends}
use Rattle.recordview_run.specs.View.{viewer_after, lines_of}
use Rattle.recordview_run.proofs.Records.{taking-more, taking-all}
use Rattle.recordview_run.proofs.view_records.Goals as goal

pub loop-octets-preserved : goal.loop-octets-preserved
loop-octets-preserved g c =
    taking-more _ _ _ _ _ _ _ _ _ (search rules) (search rules) c.take-taken.ensures c.in_ok-write_line.ensures.ok c.loop-octets.invariant

pub returns-clause-viewer : goal.returns-clause-viewer
returns-clause-viewer g c =
    (taking-all _ _ _ _ _ _ (search rules) c.loop-octets.invariant).0 ∙ ap (viewer_after c.args.viewer.now) c.as_chunks.ensures.front

pub returns-clause-lines : goal.returns-clause-lines
returns-clause-lines g c =
    subst (Appends (g.W.Write.contents c.args.output.now) (g.W.Write.contents c.loop-octets.output)) (ap (lines_of c.args.viewer.now) c.as_chunks.ensures.front)
    (taking-all _ _ _ _ _ _ (search rules) c.loop-octets.invariant).1
