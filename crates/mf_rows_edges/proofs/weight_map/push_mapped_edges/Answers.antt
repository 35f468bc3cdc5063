use Rattle.std.proofs.Common.{◌≡◌, ◌+◌, ◌∷◌, drop, get_or, to_z, of_z, to_z-of_z, w32, arith}
use Rattle.std.proofs.lemmas.Int.{ints}
use Rattle.std.proofs.lemmas.List.{drop_all, drop_more}
use Rattle.std.proofs.lemmas.Result.{err_from_is_err_and}
use Rattle.mf_rows_edges.specs.declared.edge.Edge.{Edge}
use Rattle.mf_rows_edges.specs.LawfulWeights.{IsLawfulWeight}
use Rattle.mf_rows_edges.proofs.EdgeMaps.{IsMappedSoFar, next_at, mapped_none, mapped_more, mapped_all}
use Rattle.mf_rows_edges.proofs.EdgesAt.{both_weights, no_edge}
use Rattle.mf_rows_edges.proofs.EdgeSums.{nothing_more, still_more}
use Rattle.mf_rows_edges.proofs.weight_map.push_mapped_edges.Goals as goal
use Rattle.mf_rows_edges.proofs.weight_map.push_mapped_edges.Goals.{In-loop-edge}

pub loop-edge-init : goal.loop-edge-init
loop-edge-init c = (nothing_more c.args.mapped.now.items, mapped_none c.args.map.now c.args.row.now c.requires.row c.requires.map)

-- the edges and weights when an edge is reached
at_edge : (c : In-loop-edge) → let e : Edge = get_or c.args.row.now c.loop-edge.edge-index no_edge in
    IsMappedSoFar c.args.map.now c.args.row.now (e ∷ drop (c.loop-edge.edge-index + 1) c.args.row.now) c.loop-edge.invariant.0.more
    (to_z w32 c.loop-edge.weight-bits) (to_z w32 c.loop-edge.image-bits)
at_edge c = rw (drop_more _ _ no_edge c.loop-edge-test.true) at c.loop-edge.invariant.1

pub overflow_add-weight : goal.overflow_add-weight
overflow_add-weight c =
    let lawful = both_weights (at_edge (goal.at.overflow_add-weight c).In-loop-edge).passed IsLawfulWeight c.requires.row.lawful in
    omega (arith, ints, lawful)

pub overflow_sub-next : goal.overflow_sub-next
overflow_sub-next c =
    let next = next_at c.requires.row c.requires.map (at_edge (goal.at.overflow_sub-next c).In-loop-edge) _ c.apply-next.ensures in
    rw next.next_is next.fits

pub returns-in_err-push_unless_zero-clause-kept : goal.returns-in_err-push_unless_zero-clause-kept
returns-in_err-push_unless_zero-clause-kept c = grind (arith, ints, err_from_is_err_and)

pub loop-edge-preserved : goal.loop-edge-preserved
loop-edge-preserved c =
    let so_far = at_edge (goal.at.loop-edge-preserved c).In-loop-edge in
    let next = next_at c.requires.row c.requires.map so_far _ c.apply-next.ensures in
    let e : Edge = get_or c.args.row.now c.loop-edge.edge-index no_edge in
    let x_is : to_z w32 (of_z w32 e.x) ≡ e.x = omega (arith, ints, so_far.passed.sorted.0.column) in
    rw (c.in_ok-push_unless_zero.ensures.pushed, x_is, next.change_is, next.sum_is, next.next_is, to_z-of_z next.fits)
    (still_more c.loop-edge.invariant.0 _, mapped_more so_far next.value)

pub returns-clause-pushed : goal.returns-clause-pushed
returns-clause-pushed c = record {
  more = c.loop-edge.invariant.0.more;
  all = c.loop-edge.invariant.0.all;
  mapped = mapped_all c.requires.row c.requires.map (rw (drop_all _ _ c.loop-edge-test.false) at c.loop-edge.invariant.1);
}
