use Rattle.std.proofs.Common.{to_z-of_z, arith, rules, FitsSigned, w32}
use Rattle.std.proofs.lemmas.Int.{ints}
use Rattle.mf_rows_edges.proofs.EdgeSums.{changes_of_edges}
use Rattle.mf_rows_strips.specs.Sums.{HasSumStrip}
use Rattle.mf_rows_strips.proofs.SumsLemmas.{both_reaches, left_lawful, right_lawful, row_changes, row_within, sum_none, sum_next, sum_all, unlawful_somewhere}
use Rattle.mf_rows_strips.proofs.sum.sum_of_parts.Goals as goal
use Rattle.mf_rows_strips.proofs.sum.sum_of_parts.Goals.{After-last_row}

pub loop-top-init : goal.loop-top-init
loop-top-init c =
    rw c.in_ok-sum.ensures
    (sum_none c.of-left.result c.of-right.result c.of-left.ensures.row c.of-right.ensures.row
    (rw c.of-left.ensures.strips c.strips.ensures) (rw c.of-right.ensures.strips c.strips-2.ensures) c.args.left.now.lawful c.args.right.now.lawful)

pub push_sum-requires-clause-left : goal.push_sum-requires-clause-left
push_sum-requires-clause-left c = (left_lawful c.loop-top.invariant c.in-Some.ensures.some).0

pub push_sum-requires-clause-right : goal.push_sum-requires-clause-right
push_sum-requires-clause-right c = changes_of_edges _ (right_lawful c.loop-top.invariant c.in-Some.ensures.some).0

pushed : (c : After-last_row) → HasSumStrip c.loop-top.sum c.in-Some.top c.pass_height.new.left.row.now c.pass_height.new.right.row.now c.push_sum.new.self
pushed c =
    let top : FitsSigned w32 c.in-Some.top = search rules in
    rw (to_z-of_z top) at c.in_ok-push_sum.ensures

pub reach_with-requires-clause-within : goal.reach_with-requires-clause-within
reach_with-requires-clause-within c =
    rw (c.last_row.ensures, both_reaches c.reach.ensures c.reach-2.ensures c.args.left.now.lawful c.args.right.now.lawful)
    (row_within c.loop-top.invariant c.in-Some.ensures.some _ (pushed c))

pub reach_with-requires-clause-changes : goal.reach_with-requires-clause-changes
reach_with-requires-clause-changes c =
    rw c.last_row.ensures (row_changes c.loop-top.invariant c.in-Some.ensures.some _ (pushed c))

pub returns-in_default-reach_with-clause-too_large : goal.returns-in_default-reach_with-clause-too_large
returns-in_default-reach_with-clause-too_large c = λ other.
    unlawful_somewhere c.loop-top.invariant c.in-Some.ensures.some _
    (pushed (goal.at.returns-in_default-reach_with-clause-too_large c).After-last_row) (rw c.last_row.ensures at c.in_default-reach_with.ensures.none)

pub loop-top-preserved : goal.loop-top-preserved
loop-top-preserved c =
    let next : FitsSigned w32 c.in-Some-reach_with.next = search rules in
    rw (to_z-of_z next)
    (sum_next c.loop-top.invariant c.in-Some.ensures.some _
    (pushed (goal.at.loop-top-preserved c).After-last_row) _ (omega (arith, ints, c.in-Some-reach_with.ensures.wider)) (rw c.last_row.ensures at c.in-Some-reach_with.ensures.row))

pub finish-requires : goal.finish-requires
finish-requires c = (sum_all c.loop-top.invariant c.in_default.ensures.none).1
