use Rattle.mf_rows_strips.proofs.PartEdgesLemmas.{next_of_single}
use Rattle.mf_rows_strips.proofs.row_edges.passing.pass_edge.Goals as goal

pub returns-then-edges-eq1-clause-passed : goal.returns-then-edges-eq1-clause-passed
returns-then-edges-eq1-clause-passed c = next_of_single c.args.edges.now c.index-edges-0.result c.pass.new.self _ c.if-edges-eq1.true c.pass.ensures.passed
