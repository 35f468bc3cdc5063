use Rattle.std.proofs.Common.{◌≡◌, ◌+◌, pos, ◌+ℤ◌, ◌∷◌, drop, get_or, nat_abs, to_z, of_z, w32, arith}
use Rattle.std.proofs.lemmas.Int.{ints}
use Rattle.std.proofs.lemmas.List.{drop_all, drop_more}
use Rattle.mf_rows_edges.specs.declared.edge.Edge.{Edge}
use Rattle.mf_rows_edges.specs.Merging.{IsChange}
use Rattle.mf_rows_edges.proofs.EdgesAt.{both_weights, no_edge}
use Rattle.mf_rows_edges.proofs.ReachesLemmas.{IsReachSoFar, reach_all, reach_more, reach_none}
use Rattle.mf_rows_edges.proofs.edge.reach_of.Goals as goal
use Rattle.mf_rows_edges.proofs.edge.reach_of.Goals.{In-loop-edge}

pub loop-edge-init : goal.loop-edge-init
loop-edge-init c = reach_none c.args.edges.now c.requires

-- the weights and the reach when an edge is reached
at_edge : (c : In-loop-edge) → let e : Edge = get_or c.args.edges.now c.loop-edge.edge-index no_edge in
    IsReachSoFar c.args.edges.now (e ∷ drop (c.loop-edge.edge-index + 1) c.args.edges.now) (to_z w32 c.loop-edge.weight-bits) (to_z w32 c.loop-edge.reach-bits)
at_edge c = rw (drop_more _ _ no_edge c.loop-edge-test.true) at c.loop-edge.invariant

pub overflow_add-weight : goal.overflow_add-weight
overflow_add-weight c = omega (arith, ints, both_weights (at_edge (goal.at.overflow_add-weight c).In-loop-edge).passed IsChange c.requires.changes)

pub abs-requires : goal.abs-requires
abs-requires c = omega (arith, ints, both_weights (at_edge (goal.at.abs-requires c).In-loop-edge).passed IsChange c.requires.changes)

pub loop-edge-preserved : goal.loop-edge-preserved
loop-edge-preserved c =
    let e : Edge = get_or c.args.edges.now c.loop-edge.edge-index no_edge in
    let weight = to_z w32 c.loop-edge.weight-bits in
    let so_far = at_edge (goal.at.loop-edge-preserved c).In-loop-edge in
    let both = both_weights so_far.passed IsChange c.requires.changes in
    let change_is : to_z w32 (of_z w32 e.weight) ≡ e.weight = omega (arith, ints) in
    let weight_is : to_z w32 (of_z w32 (weight +ℤ e.weight)) ≡ weight +ℤ e.weight = omega (arith, ints) in
    let size_of = rw (change_is, weight_is) at c.abs.ensures.value in
    let size_is : to_z w32 (of_z w32 c.abs.result) ≡ pos (nat_abs (weight +ℤ e.weight)) = omega (arith, ints) in
    let grown = rw (← (rw size_is at c.max-reach.ensures)) at (reach_more so_far) in
    let bound = c.requires.changes grown.x in
    let here = grown.here in
    let next_is : to_z w32 (of_z w32 c.max-reach.result) ≡ c.max-reach.result = omega (arith, ints) in
    rw (change_is, weight_is, next_is) grown

pub returns : goal.returns
returns c = reach_all _ _ _ (rw (drop_all _ _ c.loop-edge-test.false) at c.loop-edge.invariant)
