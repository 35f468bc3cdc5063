use Rattle.std.proofs.Common.{◌≡◌, ℕ, ◌≤◌, ◌<ℤ◌, take, get_or, w32}
use Rattle.std.specs.Int.{int_wrap}
use Rattle.mf_geom.specs.Coordinates.{greatest_coordinate}
use Rattle.mf_rows_strips.specs.declared.part_edges.PartEdges.{PartEdges}
use Rattle.mf_rows_strips.specs.PartEdges.{IsPassedTo, first_column_of, weight_in_all}
use Rattle.mf_rows_strips.proofs.row_edges.passing.pass_column.Given as goal

abbrev pub invariant-loop-i : goal.invariant-loop-i
invariant-loop-i l = record {
  weight : l.weight ≡ int_wrap w32 (weight_in_all (take l.i l.fn.edges) l.x);
  passed : IsPassedTo l.x (weight_in_all (take l.i l.fn.edges)) (weight_in_all (take l.i l.edges));
  further : l.x <ℤ greatest_coordinate → l.x <ℤ first_column_of (take l.i l.edges);
  same : (k : ℕ) (d : PartEdges) → l.i ≤ k → get_or l.edges k d ≡ get_or l.fn.edges k d;
}
