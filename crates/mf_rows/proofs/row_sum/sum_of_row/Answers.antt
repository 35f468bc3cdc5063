use Rattle.std.proofs.Common.{◌+◌, ◌∷◌, drop, get_or, to_z, w32, to_z-of_z}
use Rattle.std.proofs.lemmas.List.{drop_all, drop_more}
use Rattle.mf_rows_edges.specs.declared.edge.Edge.{Edge}
use Rattle.mf_rows_edges.proofs.EdgesAt.{no_edge}
use Rattle.mf_rows.proofs.EdgeTotals.{IsTotalSoFar, edge_step, total_all, total_none}
use Rattle.mf_rows.proofs.row_sum.sum_of_row.Goals as goal
use Rattle.mf_rows.proofs.row_sum.sum_of_row.Goals.{In-loop-edge}

pub loop-edge-init : goal.loop-edge-init
loop-edge-init c = total_none _ c.requires.sorted

-- the sums when an edge is reached
at_edge : (c : In-loop-edge) → let e : Edge = get_or c.args.edges.now c.loop-edge.edge-index no_edge in
    IsTotalSoFar c.args.edges.now (e ∷ drop (c.loop-edge.edge-index + 1) c.args.edges.now) (to_z w32 c.loop-edge.x-bits) (to_z w32 c.loop-edge.weight-bits) (to_z w32 c.loop-edge.total-bits)
at_edge c = rw (drop_more _ _ no_edge c.loop-edge-test.true) at c.loop-edge.invariant

pub overflow_mul-total : goal.overflow_mul-total
overflow_mul-total c =
    let is = edge_step c.requires (at_edge (goal.at.overflow_mul-total c).In-loop-edge) in
    rw (is.column, is.width) is.product_fits

pub overflow_add-total : goal.overflow_add-total
overflow_add-total c =
    let is = edge_step c.requires (at_edge (goal.at.overflow_add-total c).In-loop-edge) in
    rw (is.column, is.width, to_z-of_z is.product_fits) is.sum_fits

pub overflow_add-weight : goal.overflow_add-weight
overflow_add-weight c =
    let is = edge_step c.requires (at_edge (goal.at.overflow_add-weight c).In-loop-edge) in
    rw is.change is.weight_fits

pub loop-edge-preserved : goal.loop-edge-preserved
loop-edge-preserved c =
    let is = edge_step c.requires (at_edge (goal.at.loop-edge-preserved c).In-loop-edge) in
    rw (is.column, is.change, is.width, to_z-of_z is.product_fits, to_z-of_z is.sum_fits, to_z-of_z is.weight_fits) is.next

pub returns : goal.returns
returns c = total_all c.requires (rw (drop_all _ _ c.loop-edge-test.false) at c.loop-edge.invariant)
