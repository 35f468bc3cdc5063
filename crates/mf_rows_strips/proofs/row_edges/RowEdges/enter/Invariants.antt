use Rattle.std.proofs.Common.{◌≡◌, ℤ, take}
use Rattle.mf_rows_strips.specs.Parts.{weight_in_parts}
use Rattle.mf_rows_strips.specs.PartEdges.{weight_in_all}
use Rattle.mf_rows_strips.specs.RowEdges.{AreSameRows}
use Rattle.mf_rows_strips.proofs.row_edges.RowEdges.enter.Given as goal

abbrev pub invariant-loop-i : goal.invariant-loop-i
invariant-loop-i l = record {
  edges : (x : ℤ) → weight_in_all (take l.i l.edges) x ≡ weight_in_parts (take l.i l.parts) x l.y;
  rows : AreSameRows (weight_in_parts (take l.i l.parts)) l.bottom l.y;
}
