use Rattle.mf_rows.specs.Corners.{AreCorners}
use Rattle.mf_rows_tests.proofs.tests.rectangles.corners_of.Given as goal

abbrev pub invariant-loop-rectangle : goal.invariant-loop-rectangle
invariant-loop-rectangle g l = AreCorners l.corners.items
