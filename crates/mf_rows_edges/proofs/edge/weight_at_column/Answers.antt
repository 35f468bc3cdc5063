use Rattle.std.proofs.Common.{◌≡◌, ◌+ℤ◌, sym, ◌∙◌, get_or, to_z, of_z, to_z-of_z, w32, arith}
use Rattle.std.proofs.lemmas.Int.{ints}
use Rattle.std.proofs.lemmas.List.{drop_all, drop_more}
use Rattle.mf_rows_edges.specs.Edges.{weight_in}
use Rattle.mf_rows_edges.specs.LawfulWeights.{IsLawfulWeight}
use Rattle.mf_rows_edges.proofs.EdgesAt.{all_before, both_weights, next_edge, no_edge, none_passed, one_passed, passed_after}
use Rattle.mf_rows_edges.proofs.edge.weight_at_column.Goals as goal

pub loop-edge-init : goal.loop-edge-init
loop-edge-init c = record { passed = none_passed _ c.requires.sorted; here = omega (arith, ints) }

pub returns-then-x-edge : goal.returns-then-x-edge
returns-then-x-edge c =
    let all = all_before (next_edge _ _ c.loop-edge.invariant.passed c.loop-edge-test.true) c.args.x (omega (arith, ints)) in
    rw (to_z-of_z c.ranges.x, drop_more _ _ no_edge c.loop-edge-test.true) at c.loop-edge.invariant.here ∙ sym all

pub overflow_add-weight : goal.overflow_add-weight
overflow_add-weight c =
    let lawful = both_weights (next_edge _ _ c.loop-edge.invariant.passed c.loop-edge-test.true) IsLawfulWeight c.requires.lawful in
    omega (arith, ints)

pub loop-edge-preserved : goal.loop-edge-preserved
loop-edge-preserved c =
    let e = get_or c.args.edges.now c.loop-edge.edge-index no_edge in
    let passed = next_edge _ _ c.loop-edge.invariant.passed c.loop-edge-test.true in
    let lawful = both_weights passed IsLawfulWeight c.requires.lawful in
    let weight_is : to_z w32 (of_z w32 e.weight) ≡ e.weight = omega (arith, ints) in
    let sum_is : to_z w32 (of_z w32 (to_z w32 c.loop-edge.weight-bits +ℤ e.weight)) ≡ to_z w32 c.loop-edge.weight-bits +ℤ e.weight = omega (arith, ints) in
    rw (weight_is, sum_is, to_z-of_z c.ranges.x) (record { passed = one_passed passed; here = sym (passed_after passed c.args.x (omega (arith, ints))) })

pub returns : goal.returns
unfolding weight_in
returns c =
    let here = rw (to_z-of_z c.ranges.x, drop_all _ _ c.loop-edge-test.false) at c.loop-edge.invariant.here in
    omega (arith, ints, here)
