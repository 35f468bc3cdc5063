use Rattle.std.proofs.Common.{◌≡◌, ℤ, ◌-ℤ◌}
use Rattle.std.specs.Int.RustNames.{unsigned_abs}
use Rattle.mf_geom.specs.Coordinates.{greatest_coordinate}
use Rattle.mf_rows_strips.specs.PartEdges.{first_column_of, weight_in_all}
use Rattle.mf_rows_strips.proofs.row_edges.passing.pass_together.Given as goal

abbrev pub invariant-loop-x : goal.invariant-loop-x
invariant-loop-x l = record {
  weights : (x : ℤ) → weight_in_all l.edges x ≡ weight_in_all l.fn.edges x;
}

abbrev pub decreases-loop-x : goal.decreases-loop-x
decreases-loop-x l = unsigned_abs (greatest_coordinate -ℤ first_column_of l.edges)
