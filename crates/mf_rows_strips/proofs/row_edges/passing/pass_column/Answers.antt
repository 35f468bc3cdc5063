use Rattle.std.proofs.Common.{◌≡◌, ◌<◌, FitsSigned, rules, length, get_or, to_z-of_z, w32, sym, ap, ◌∙◌, arith}
use Rattle.std.specs.Int.{int_wrap}
use Rattle.std.proofs.lemmas.Int.{ints, clamps, wrapping_add_onto, int_wrap-add_left}
use Rattle.std.proofs.lemmas.List.{get_or-set_other}
use Rattle.mf_rows_strips.proofs.PartEdgesLemmas.{both_passed, same_passed, first_column_of-least, first_column_of-set, weight_in_all-more, weight_in_all-set}
use Rattle.mf_rows_strips.proofs.row_edges.passing.pass_column.Goals as goal
use Rattle.mf_rows_strips.proofs.row_edges.passing.pass_column.Goals.{After-index-edges-i}

own : (c : After-index-edges-i) → get_or c.loop-i.edges c.loop-i.i c.index-edges-i.result ≡ get_or c.args.edges.now c.loop-i.i c.index-edges-i.result
own c = c.loop-i.invariant.same c.loop-i.i _ (omega arith)

pub pass_column-weight-requires : goal.pass_column-weight-requires
pass_column-weight-requires c =
    rw (to_z-of_z c.ranges.x, own (goal.at.pass_column-weight-requires c).After-index-edges-i)
    (omega (arith, ints, first_column_of-least c.args.edges.now c.loop-i.i c.index-edges-i.result c.loop-i-test.true))

pub loop-i-preserved : goal.loop-i-preserved
loop-i-preserved c =
    let so_far = c.loop-i.invariant in
    let i = c.loop-i.i in
    let new = c.pass_column-weight.new.self in
    let passed = rw (own (goal.at.loop-i-preserved c).After-index-edges-i) at c.pass_column-weight.ensures in
    let in_edges : i < length c.loop-i.edges = omega arith in
    let old = weight_in_all-more c.args.edges.now i c.index-edges-i.result c.loop-i-test.true in
    let fits : FitsSigned w32 c.pass_column-weight.result = search rules in
    record {
      weight = wrapping_add_onto w32 c.loop-i.weight-bits c.pass_column-weight.result (search rules) fits ∙ rw (so_far.weight, passed.weight) (int_wrap-add_left w32 _ _ ∙ ap (int_wrap w32) (sym (old _)));
      passed = same_passed old (weight_in_all-set c.loop-i.edges i new in_edges) (both_passed so_far.passed passed.passed);
      further = λ lt. rw (first_column_of-set c.loop-i.edges i new in_edges) (omega (arith, ints, clamps, so_far.further lt, passed.further lt));
      same = λ k d le. get_or-set_other c.loop-i.edges i k new d (λ is. absurd (omega arith)) ∙ so_far.same k d (omega arith);
    }
