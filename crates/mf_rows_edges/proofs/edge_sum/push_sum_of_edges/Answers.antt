use Rattle.std.proofs.Common.{◌≡◌, ◌+ℤ◌, ◌++◌, ◌∷◌, take, drop, to_z, of_z, w32, arith}
use Rattle.std.proofs.lemmas.Int.{ints}
use Rattle.std.proofs.lemmas.List.{nil_from_length}
use Rattle.std.proofs.lemmas.List.Elements.{All-head}
use Rattle.std.proofs.lemmas.Result.{err_from_is_err_and}
use Rattle.mf_geom.specs.Coordinates.{least_coordinate}
use Rattle.mf_rows_edges.specs.declared.edge.Edge.{Edge}
use Rattle.mf_rows_edges.specs.Merging.{IsDifference}
use Rattle.mf_rows_edges.specs.Sums.{weight_in_both}
use Rattle.mf_rows_edges.proofs.EdgesLemmas.{edges_from-lower}
use Rattle.mf_rows_edges.proofs.EdgeSums.{IsSumSoFar, nothing_more, still_more, sum_none, sum_kept, sum_more, sum_all}
use Rattle.mf_rows_edges.proofs.edge_sum.push_sum_of_edges.Goals as goal
use Rattle.mf_rows_edges.proofs.edge_sum.push_sum_of_edges.Goals.{After-count_left_of}

pub loop-change-init : goal.loop-change-init
loop-change-init c =
    rw c.in_ok-reserve.ensures.items
    (nothing_more c.args.sum.now.items, least_coordinate, sum_none c.args.left.now c.args.right.now c.requires.left c.requires.right)

pub count_left_of-requires : goal.count_left_of-requires
count_left_of-requires c = let so_far = c.loop-change.invariant.2 in edges_from-lower _ _ _ so_far.reach so_far.left.sorted

-- the next change comes after the edges that are kept
kept : (c : After-count_left_of) → let change : Edge = c.in-Some.change.now in let left = c.loop-change.left.now in let n = c.count_left_of.result in
    IsSumSoFar (weight_in_both c.args.left.now c.args.right.now) change.x (c.loop-change.invariant.0.more ++ take n left) (drop n left) (change ∷ c.in-Some.changes.now)
kept c =
    let so_far = rw c.in-Some.ensures.cases.0 at c.loop-change.invariant.2 in
    sum_kept so_far c.count_left_of.result (grind (arith, ints)) (grind (arith, ints))

difference : (c : After-count_left_of) → IsDifference c.in-Some.change.now.weight
difference c = All-head (λ e. IsDifference e.weight) c.in-Some.change.now c.in-Some.changes.now (kept c).right.differences

pub split_at-edge-requires : goal.split_at-edge-requires
split_at-edge-requires c =
    let x_is : to_z w32 (of_z w32 c.in-Some.change.now.x) ≡ c.in-Some.change.now.x = omega (arith, ints) in
    rw (x_is, c.split_at.ensures.back) (kept (goal.at.split_at-edge-requires c).After-count_left_of).left

pub overflow_add-edge : goal.overflow_add-edge
overflow_add-edge c =
    let old = c.split_at-edge.ensures.difference in
    let new = difference (goal.at.overflow_add-edge c).After-count_left_of in
    omega (arith, ints)

pub returns-in_err-push_unless_zero-clause-kept : goal.returns-in_err-push_unless_zero-clause-kept
returns-in_err-push_unless_zero-clause-kept c = grind (arith, ints, err_from_is_err_and, still_more)

pub loop-change-preserved : goal.loop-change-preserved
loop-change-preserved c =
    let change : Edge = c.in-Some.change.now in
    let v = c.split_at-edge.result.0 in
    let so_far = kept (goal.at.loop-change-preserved c).After-count_left_of in
    let new = difference (goal.at.loop-change-preserved c).After-count_left_of in
    let x_is : to_z w32 (of_z w32 change.x) ≡ change.x = omega (arith, ints, so_far.right.sorted.0.column) in
    let split = rw (x_is, c.split_at.ensures.back) at c.split_at-edge.ensures in
    let v_is : to_z w32 (of_z w32 v) ≡ v = omega (arith, ints, split.difference) in
    let w_is : to_z w32 (of_z w32 change.weight) ≡ change.weight = omega (arith, ints, new) in
    let sum_is : to_z w32 (of_z w32 (v +ℤ change.weight)) ≡ v +ℤ change.weight = omega (arith, ints, new, split.difference) in
    rw (c.in_ok-push_unless_zero.ensures.pushed, c.in_ok-push_edges.ensures.pushed, c.split_at.ensures.front, x_is, v_is, w_is, sum_is)
    (still_more (still_more c.loop-change.invariant.0 _) _, _, sum_more so_far split)

pub returns-clause-pushed : goal.returns-clause-pushed
returns-clause-pushed c =
    let all = still_more c.loop-change.invariant.0 c.loop-change.left.now in
    rw c.in_ok-extend_from_slice.ensures.items (record {
      more = all.more;
      all = all.all;
      sum = sum_all (rw (nil_from_length c.loop-change.right.now c.in_default.ensures.cases) at c.loop-change.invariant.2);
    })
