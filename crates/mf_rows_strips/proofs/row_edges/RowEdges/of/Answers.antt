use Rattle.std.proofs.Common.{refl}
use Rattle.mf_rows_strips.specs.RowEdges.{weights_of}
use Rattle.mf_rows_strips.proofs.row_edges.RowEdges.of.Goals as goal

pub returns : goal.returns
unfolding weights_of
returns c = refl
