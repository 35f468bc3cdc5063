use Rattle.std.proofs.Common.{◌≡◌, pos, ◌+ℤ◌, ◌-ℤ◌, ◌<ℤ◌}
use Rattle.std.specs.Int.RustNames.{unsigned_abs}
use Rattle.mf_geom.specs.Coordinates.{least_coordinate}
use Rattle.mf_rows_strips.specs.RowEdges.{weights_of}
use Rattle.mf_rows.specs.Bounds.{AreBounds, among, from_row}
use Rattle.mf_rows.proofs.walk.Walk.bounds.Given as goal

abbrev pub invariant-loop-self : goal.invariant-loop-self
invariant-loop-self l = record {
  bounds : AreBounds (from_row (l.self.y +ℤ pos 1) (among l.pixels (weights_of l.fn.self.edges))) l.bounds;
  weights : weights_of l.self.edges ≡ weights_of l.fn.self.edges;
  column : l.self.x <ℤ least_coordinate;
}

abbrev pub decreases-loop-self : goal.decreases-loop-self
decreases-loop-self l = unsigned_abs (l.self.y -ℤ least_coordinate)
