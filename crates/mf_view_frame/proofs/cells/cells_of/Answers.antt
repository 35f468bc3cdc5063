use Rattle.mf_view_frame.proofs.Painting.{next_in_window, painted_more}
use Rattle.mf_view_frame.proofs.cells.cells_of.Goals as goal

pub paint-requires-clause-run : goal.paint-requires-clause-run
paint-requires-clause-run c = next_in_window c.requires.dots c.in-Some.ensures.steps c.loop-run.invariant

pub loop-run-preserved : goal.loop-run-preserved
loop-run-preserved c = painted_more c.in-Some.ensures.steps c.paint.ensures c.loop-run.invariant
