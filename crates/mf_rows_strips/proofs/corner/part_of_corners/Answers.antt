use Rattle.std.proofs.Common.{FitsSigned, w32, to_z-of_z, rules, arith}
use Rattle.std.specs.List.Sorted.{IsSortedBy}
use Rattle.std.proofs.lemmas.Int.{ints}
use Rattle.std.proofs.lemmas.List.Sorted.{answers_always, All-permutation}
use Rattle.mf_rows_edges.specs.Sums.{IsEdgeSum}
use Rattle.mf_rows_edges.proofs.EdgeSums.{changes_of_edges}
use Rattle.mf_rows_strips.specs.Corners.{IsCornerInRange, IsSplitHeight}
use Rattle.mf_rows_strips.specs.Strips.{last_row}
use Rattle.mf_rows_strips.proofs.CornersLemmas.{added_by_permuted, comes_before, sorted_all, sum_alone}
use Rattle.mf_rows_strips.proofs.CornersLemmas.{swept_none, sorted_at, row_above, changes_are, row_below, swept_more, swept_all}
use Rattle.mf_rows_strips.proofs.corner.part_of_corners.Goals as goal
use Rattle.mf_rows_strips.proofs.corner.part_of_corners.Goals.{In_ok-left, In_ok-push_sum_of_edges}

pub loop-top-init : goal.loop-top-init
loop-top-init c =
    let ks = c.args.corners.items in
    let sorted = c.sort_by_key.new.self.items in
    let moved = c.sort_by_key.ensures.permutation in
    let by_height : IsSortedBy comes_before sorted =
    c.in_ok-sort_by_key.ensures.sorted (λ corner. (record { 0 = corner.y }, corner.x)) (answers_always _ _ _ (λ f a r g called. search rules)) in
    rw (c.in_ok-part.ensures, c.as_slice-left.ensures.value)
    (swept_none ks sorted (sorted_all sorted (All-permutation IsCornerInRange ks sorted moved c.requires.in_range) by_height) (λ x y. added_by_permuted ks sorted x y moved))

pub split_height-requires : goal.split_height-requires
split_height-requires c =
    let top : FitsSigned w32 c.in-Some.top = search rules in
    let here = c.in-Some.ensures.first in
    rw (to_z-of_z top) (record { first = here; sorted = (sorted_at c.loop-top.invariant here).2 })

-- the corners at the next height
split_is : (c : In_ok-left) → IsSplitHeight c.in-Some.top c.loop-top.left.now c.split_height.new.changes.items c.in_ok-left.left.now
split_is c = let top : FitsSigned w32 c.in-Some.top = search rules in rw (to_z-of_z top) at c.in_ok-left.ensures

pub push_sum_of_edges-requires : goal.push_sum_of_edges-requires
push_sum_of_edges-requires c =
    let split = split_is (goal.at.push_sum_of_edges-requires c).In_ok-left in
    let here = c.in-Some.ensures.first in
    record {
      left = rw c.last_row.ensures (row_above c.loop-top.invariant);
      right = rw c.deref.ensures.value (changes_are c.loop-top.invariant here c.requires split);
    }

-- the row below it
sum_is : (c : In_ok-push_sum_of_edges) → IsEdgeSum (last_row c.loop-top.part) c.split_height.new.changes.items c.push_sum_of_edges.new.sum.items
sum_is c = sum_alone _ _ _ (rw (c.clear.ensures.items, c.last_row.ensures, c.deref.ensures.value) at c.in_ok-push_sum_of_edges.ensures.pushed)

pub push_unless_same-requires : goal.push_unless_same-requires
push_unless_same-requires c =
    let top : FitsSigned w32 c.in-Some.top = search rules in
    rw (to_z-of_z top) (record { bottom = omega (arith, ints, c.in-Some.ensures.above); top = (sorted_at c.loop-top.invariant c.in-Some.ensures.first).1 })

pub reach_of-requires : goal.reach_of-requires
reach_of-requires c =
    let split = split_is (goal.at.reach_of-requires c).In_ok-left in
    let sum = sum_is (goal.at.reach_of-requires c).In_ok-push_sum_of_edges in
    rw c.deref-in-Some-2.ensures.value (changes_of_edges _ (row_below c.loop-top.invariant c.in-Some.ensures.first c.requires split sum))

pub loop-top-preserved : goal.loop-top-preserved
loop-top-preserved c =
    let top : FitsSigned w32 c.in-Some.top = search rules in
    let own : FitsSigned w32 c.reach_of.result = search rules in
    let next : FitsSigned w32 c.max-reach.result = search rules in
    let split = split_is (goal.at.loop-top-preserved c).In_ok-left in
    let sum = sum_is (goal.at.loop-top-preserved c).In_ok-push_sum_of_edges in
    let least = rw c.deref-in-Some-2.ensures.value at c.reach_of.ensures in
    let greater = rw (to_z-of_z own) at c.max-reach.ensures.value in
    let goes_on = rw (to_z-of_z top, c.deref-in-Some.ensures.value) at c.in_ok-push_unless_same.ensures in
    rw (to_z-of_z next) (swept_more c.loop-top.invariant c.in-Some.ensures.first c.requires split sum _ _ _ c.in-Some.ensures.above least greater goes_on)

pub finish-requires : goal.finish-requires
finish-requires c = (swept_all c.loop-top.invariant c.in_default.ensures.none c.in_ok-push_unless_same-2.ensures).0

pub returns : goal.returns
returns c =
    record { weights = rw c.finish.ensures.strips (swept_all c.loop-top.invariant c.in_default.ensures.none c.in_ok-push_unless_same-2.ensures).1 }
