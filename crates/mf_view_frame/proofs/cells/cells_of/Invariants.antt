use Rattle.mf_view_frame.proofs.Painting.{ArePaintedBefore}
use Rattle.mf_view_frame.proofs.cells.cells_of.Given as goal

abbrev pub invariant-loop-run : goal.invariant-loop-run
invariant-loop-run l = ArePaintedBefore l.window l.picture l.run-iterator l.shades.items
