use Rattle.std.proofs.Common.{◌≡◌, pos, ◌+ℤ◌, ◌-ℤ◌, ◌<ℤ◌}
use Rattle.std.specs.Int.RustNames.{unsigned_abs}
use Rattle.mf_geom.specs.Coordinates.{least_coordinate}
use Rattle.mf_geom.specs.Field.{sum_over_field}
use Rattle.mf_rows_strips.specs.RowEdges.{weights_of}
use Rattle.mf_rows.specs.Totals.{rows_total}
use Rattle.mf_rows.proofs.walk.Walk.total.Given as goal

abbrev pub invariant-loop-self : goal.invariant-loop-self
invariant-loop-self l = record {
  total : l.total +ℤ rows_total (weights_of l.fn.self.edges) (l.self.y +ℤ pos 1) ≡ sum_over_field (weights_of l.fn.self.edges);
  weights : weights_of l.self.edges ≡ weights_of l.fn.self.edges;
  column : l.self.x <ℤ least_coordinate;
}

abbrev pub decreases-loop-self : goal.decreases-loop-self
decreases-loop-self l = unsigned_abs (l.self.y -ℤ least_coordinate)
