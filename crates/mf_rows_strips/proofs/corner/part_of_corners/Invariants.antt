use Rattle.std.proofs.Common.{length}
use Rattle.mf_rows_strips.proofs.CornersLemmas.{IsSwept}
use Rattle.mf_rows_strips.proofs.corner.part_of_corners.Given as goal

-- the corners before those that are left have been swept
abbrev pub invariant-loop-top : goal.invariant-loop-top
invariant-loop-top l = IsSwept l.fn.corners.items l.left l.reach l.part

abbrev pub decreases-loop-top : goal.decreases-loop-top
decreases-loop-top l = length l.left
