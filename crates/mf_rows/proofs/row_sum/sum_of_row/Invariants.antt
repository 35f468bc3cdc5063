use Rattle.std.proofs.Common.{drop}
use Rattle.mf_rows.proofs.EdgeTotals.{IsTotalSoFar}
use Rattle.mf_rows.proofs.row_sum.sum_of_row.Given as goal

abbrev pub invariant-loop-edge : goal.invariant-loop-edge
invariant-loop-edge l = IsTotalSoFar l.edges (drop l.edge-index l.edges) l.x l.weight l.total
