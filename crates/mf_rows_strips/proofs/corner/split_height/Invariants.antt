use Rattle.std.proofs.Common.{length}
use Rattle.mf_rows_strips.proofs.CornersLemmas.{IsHeightSoFar}
use Rattle.mf_rows_strips.proofs.corner.split_height.Given as goal

-- the corners so far are at the height of the first one
abbrev pub invariant-loop-first : goal.invariant-loop-first
invariant-loop-first l = IsHeightSoFar l.top l.corners l.changes.items l.last l.left

abbrev pub decreases-loop-first : goal.decreases-loop-first
decreases-loop-first l = length l.left
