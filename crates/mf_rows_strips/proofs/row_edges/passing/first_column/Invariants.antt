use Rattle.std.proofs.Common.{◌≡◌, take}
use Rattle.mf_rows_strips.specs.PartEdges.{first_column_of}
use Rattle.mf_rows_strips.proofs.row_edges.passing.first_column.Given as goal

abbrev pub invariant-loop-own : goal.invariant-loop-own
invariant-loop-own l = l.first ≡ first_column_of (take l.own-index l.edges)
