use Rattle.std.proofs.Common.{◌≡◌, drop}
use Rattle.mf_rows_edges.proofs.EdgesAt.{ArePassed, passed_in}
use Rattle.mf_rows_edges.proofs.edge.weight_at_column.Given as goal

abbrev pub invariant-loop-edge : goal.invariant-loop-edge
invariant-loop-edge l = record {
  passed : ArePassed l.edges (drop l.edge-index l.edges) l.weight;
  here : l.weight ≡ passed_in l.edges (drop l.edge-index l.edges) l.fn.x;
}
