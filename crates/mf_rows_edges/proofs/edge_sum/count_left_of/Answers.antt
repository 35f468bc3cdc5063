use Rattle.std.proofs.Common.{◌≡◌, true, false, to_z, of_z, to_z-of_z, w32, subst, arith, rules}
use Rattle.std.specs.List.Sorted.{IsPartitionPoint}
use Rattle.std.proofs.lemmas.Int.{ints}
use Rattle.std.proofs.lemmas.Fn.{always_returns_same}
use Rattle.mf_rows_edges.proofs.Falls.{is_left_of, IsPartitionedBy-is_left_of, left_split, begin_from}
use Rattle.mf_rows_edges.proofs.edge_sum.count_left_of.Goals as goal

split : (c : goal.After-partition_point)
    → IsPartitionPoint (λ edge. is_left_of c.args.x edge ≡ true) (λ edge. is_left_of c.args.x edge ≡ false) c.args.edges.now c.partition_point.result
split c =
    let edges = c.args.edges.now in
    let x_is = to_z-of_z c.ranges.x in
    subst (λ x. IsPartitionPoint (λ edge. is_left_of x edge ≡ true) (λ edge. is_left_of x edge ≡ false) edges c.partition_point.result) x_is
    (c.partition_point.ensures.partitioned (is_left_of (to_z w32 (of_z w32 c.args.x)))
    (search (rules, always_returns_same)) (IsPartitionedBy-is_left_of _ _ edges c.requires))

pub returns-then-are_few-clause-left : goal.returns-then-are_few-clause-left
returns-then-are_few-clause-left c = left_split c.args.x _ c.args.edges.now c.partition_point.ensures.bound (split c).0

pub returns-then-are_few-clause-others : goal.returns-then-are_few-clause-others
returns-then-are_few-clause-others c = begin_from c.args.x _ c.args.edges.now (λ d lt. let right = (split c).1 _ d (omega arith) lt in grind (arith, ints))
