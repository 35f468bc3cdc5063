use Rattle.std.proofs.Common.{◌≡◌, ⊎_elim, to_z, of_z, refl, sym, ◌∙◌, w32, arith}
use Rattle.std.proofs.lemmas.Int.{ints}
use Rattle.mf_rows_strips.proofs.PartEdgesLemmas.{cancelled, first_column_of-within, same_passed}
use Rattle.mf_rows_strips.proofs.row_edges.passing.pass_together.Goals as goal
use Rattle.mf_rows_strips.proofs.row_edges.passing.pass_together.Goals.{After-first_column-x}

column : (c : After-first_column-x) → to_z w32 (of_z w32 c.first_column-x.result) ≡ c.first_column-x.result
column c = omega (arith, ints)

pub loop-x-smaller : goal.loop-x-smaller
loop-x-smaller c =
    let within = first_column_of-within c.loop-x.edges in
    let next = first_column_of-within c.pass_column-weight.new.edges in
    let further = rw (column (goal.at.loop-x-smaller c).After-first_column-x) at c.pass_column-weight.ensures.further in
    omega (arith, ints, further (omega (arith, ints)))

pub loop-x-preserved : goal.loop-x-preserved
loop-x-preserved c =
    let passed = rw (column (goal.at.loop-x-preserved c).After-first_column-x) at c.pass_column-weight.ensures in
    record { weights = λ z. cancelled _ _ _ passed.passed (omega (arith, ints, passed.weight)) z ∙ c.loop-x.invariant.weights z }

pub pass_column-weight-requires : goal.pass_column-weight-requires
pass_column-weight-requires c = record {
  first = omega (arith, ints);
  difference = rw c.loop-x.invariant.weights (c.requires _);
}

pub returns-then-weight-ne0-clause-passed : goal.returns-then-weight-ne0-clause-passed
returns-then-weight-ne0-clause-passed c =
    let passed = rw (column (goal.at.returns-then-weight-ne0-clause-passed c).After-first_column-x) at c.pass_column-weight.ensures in
    let weight : to_z w32 (of_z w32 c.pass_column-weight.result) ≡ c.pass_column-weight.result = omega (arith, ints) in
    rw (column (goal.at.returns-then-weight-ne0-clause-passed c).After-first_column-x, weight) (record {
      within = rw c.first_column-x.ensures (first_column_of-within c.loop-x.edges);
      nonzero = λ lt zero. ⊎_elim (λ nonzero. nonzero (omega (arith, ints))) (λ end. absurd (omega (arith, ints, end.1))) c.then-weight-ne0.either;
      weight = passed.weight ∙ c.loop-x.invariant.weights _;
      edge = same_passed (λ z. sym (c.loop-x.invariant.weights z)) (λ z. refl) passed.passed;
    })
