use Rattle.std.proofs.Common.{◌≡◌, ◌<ℤ◌, take}
use Rattle.std.specs.List.{All}
use Rattle.mf_rows_edges.proofs.edge_sum.pass_left_of.Given as goal

abbrev pub invariant-loop-edge : goal.invariant-loop-edge
invariant-loop-edge l = record {
  count : l.count ≡ l.edge-index;
  left : All (λ e. e.x <ℤ l.fn.x) (take l.edge-index l.edges);
}
