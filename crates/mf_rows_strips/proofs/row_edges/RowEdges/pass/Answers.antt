use Rattle.std.proofs.Common.{List, refl, subst, sym, take}
use Rattle.mf_rows_strips.specs.declared.part_edges.PartEdges.{PartEdges}
use Rattle.mf_rows_strips.specs.PartEdges.{IsNextEdge, weight_in_all}
use Rattle.mf_rows_strips.specs.RowEdges.{weight_left, weights_of}
use Rattle.mf_rows_strips.proofs.PartEdgesLemmas.{first_written}
use Rattle.mf_rows_strips.proofs.row_edges.RowEdges.pass.Goals as goal

pub pass_edge-requires : goal.pass_edge-requires
unfolding weight_left
pass_edge-requires c = rw c.len.ensures c.requires

pub returns-clause-passed : goal.returns-clause-passed
unfolding weight_left
returns-clause-passed c =
    let n = c.len.result in
    let old = c.args.self.now.edges in
    let new = c.pass_edge.new.edges in
    rw (sym c.len.ensures) (subst (λ (ps : List PartEdges). IsNextEdge (weight_in_all (take n old)) (weight_in_all ps) c.pass_edge.result)
    (sym (first_written n old new c.pass_edge.ensures.each)) c.pass_edge.ensures.passed)

pub returns-clause-same : goal.returns-clause-same
unfolding weights_of
returns-clause-same c = refl
