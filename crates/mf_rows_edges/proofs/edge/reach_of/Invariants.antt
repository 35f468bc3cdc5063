use Rattle.std.proofs.Common.{drop}
use Rattle.mf_rows_edges.proofs.ReachesLemmas.{IsReachSoFar}
use Rattle.mf_rows_edges.proofs.edge.reach_of.Given as goal

abbrev pub invariant-loop-edge : goal.invariant-loop-edge
invariant-loop-edge l = IsReachSoFar l.edges (drop l.edge-index l.edges) l.weight l.reach
