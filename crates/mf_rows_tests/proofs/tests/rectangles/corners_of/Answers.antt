use Rattle.std.proofs.Common.{[], refl, arith}
use Rattle.std.proofs.lemmas.List.Elements.{All-nil}
use Rattle.mf_rows.specs.Corners.{AreCorners, IsCorner, added_by_all}
use Rattle.mf_rows_tests.proofs.tests.rectangles.corners_of.Goals as goal

no_corners : AreCorners []
unfolding added_by_all
no_corners = record { few = omega arith; corners = All-nil IsCorner; closed = λ y. refl }

pub loop-rectangle-init : goal.loop-rectangle-init
loop-rectangle-init g c = rw c.new-corners.ensures.items no_corners
