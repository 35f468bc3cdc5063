use Rattle.std.proofs.Common.{◌≡◌, pos, ◌+ℤ◌, arith, to_z, of_z, w32}
use Rattle.std.proofs.lemmas.Int.{ints}
use Rattle.std.proofs.lemmas.List.{nil_from_length}
use Rattle.mf_rows_edges.specs.Merging.{BeginFrom}
use Rattle.mf_rows_edges.proofs.EdgeSums.{split_here, split_after}
use Rattle.mf_rows_edges.proofs.edge_sum.split_at.Goals as goal
use Rattle.mf_rows_edges.proofs.edge_sum.split_at.Goals.{in_default-via-in-Some+else-edge-x, in_default-via-in_default}

pub returns-in-Some : goal.returns-in-Some
returns-in-Some c =
    let edge = c.in-Some.edge.now in
    let weight_is : to_z w32 (of_z w32 edge.weight) ≡ edge.weight = omega (arith, ints) in
    let x_is : c.args.x ≡ edge.x = omega (arith, ints) in
    rw (weight_is, c.in-Some.ensures.cases.0, x_is) (split_here edge c.in-Some.rest.now (rw (c.in-Some.ensures.cases.0, x_is) at c.requires))

pub returns-in_default : goal.returns-in_default
returns-in_default c = split_after c.args.edges.now c.args.x c.requires (elim c.in_default.branch as (λ _. BeginFrom (c.args.x +ℤ pos 1) c.args.edges.now) [
  | in_default-via-in-Some+else-edge-x w ↦
      let start = (rw w.in-Some.ensures.cases.0 at c.requires).sorted.1 in rw w.in-Some.ensures.cases.0 (grind (arith, ints))
  | in_default-via-in_default w ↦ rw (nil_from_length c.args.edges.now w.in_default.ensures.cases) tt
])
