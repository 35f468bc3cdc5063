use Rattle.std.proofs.Common.{◌≡◌, ◌-ℤ◌}
use Rattle.std.specs.Int.RustNames.{unsigned_abs}
use Rattle.mf_geom.specs.Coordinates.{greatest_coordinate}
use Rattle.mf_rows_strips.specs.RowEdges.{weights_of}
use Rattle.mf_rows.specs.Remaining.{HasPassedRow}
use Rattle.mf_rows.specs.Totals.{row_total}
use Rattle.mf_rows.proofs.walk.Walk.row_total.Given as goal

abbrev pub invariant-loop-self : goal.invariant-loop-self
invariant-loop-self l = record {
  total : l.total ≡ row_total (weights_of l.fn.self.edges) l.fn.self.y l.self.x;
  passed : HasPassedRow l.fn.self l.self;
}

abbrev pub decreases-loop-self : goal.decreases-loop-self
decreases-loop-self l = unsigned_abs (greatest_coordinate -ℤ l.self.x)
