use Rattle.std.proofs.Common.{drop}
use Rattle.mf_rows_edges.specs.Sums.{HasMoreEdges}
use Rattle.mf_rows_edges.proofs.EdgeMaps.{IsMappedSoFar}
use Rattle.mf_rows_edges.proofs.weight_map.push_mapped_edges.Given as goal

abbrev pub invariant-loop-edge : goal.invariant-loop-edge
invariant-loop-edge l =
    (kept : HasMoreEdges l.fn.mapped.items l.mapped.items) × IsMappedSoFar l.map l.row (drop l.edge-index l.row) kept.more l.weight l.image
