use Rattle.std.proofs.Common.{◌≡◌, sym, subst, arith}
use Rattle.std.proofs.lemmas.Int.{ints}
use Rattle.mf_rows_edges.specs.Edges.{weight_in}
use Rattle.mf_rows_strips.specs.PartEdges.{IsPassedTo}
use Rattle.mf_rows_strips.proofs.PartEdgesLemmas.{before_first, none_passed}
use Rattle.mf_rows_strips.proofs.part_edges.PartEdges.pass_column.Goals as goal
use Rattle.mf_rows_strips.proofs.part_edges.PartEdges.pass_column.Goals.{After-pass}

column : (c : After-pass) → c.pass.result.x ≡ c.args.x
column c = omega (arith, ints)

pub returns-then-column-x-clause-weight : goal.returns-then-column-x-clause-weight
returns-then-column-x-clause-weight c = sym (before_first _ _ c.args.self.now.sorted (omega (arith, ints)))

pub returns-then-column-x-clause-passed : goal.returns-then-column-x-clause-passed
returns-then-column-x-clause-passed c = none_passed _ _ c.args.self.now.sorted (omega (arith, ints))

pub returns-clause-passed : goal.returns-clause-passed
returns-clause-passed c = subst (λ x. IsPassedTo x (weight_in c.args.self.now.edges.now) (weight_in c.pass.new.self.edges.now)) (column (goal.at.returns-clause-passed c).After-pass) c.pass.ensures.passed.edge
