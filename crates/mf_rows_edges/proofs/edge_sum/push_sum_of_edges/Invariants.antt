use Rattle.std.proofs.Common.{length, ℤ}
use Rattle.mf_rows_edges.specs.Sums.{weight_in_both, HasMoreEdges}
use Rattle.mf_rows_edges.proofs.EdgeSums.{IsSumSoFar}
use Rattle.mf_rows_edges.proofs.edge_sum.push_sum_of_edges.Given as goal

abbrev pub invariant-loop-change : goal.invariant-loop-change
invariant-loop-change l =
    (kept : HasMoreEdges l.fn.sum.items l.sum.items) × (low : ℤ) × IsSumSoFar (weight_in_both l.fn.left l.fn.right) low kept.more l.left l.right

abbrev pub decreases-loop-change : goal.decreases-loop-change
decreases-loop-change l = length l.right
