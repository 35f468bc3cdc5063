use Rattle.std.proofs.Common.{◌≡◌, pos, ◌+ℤ◌, to_z, of_z, w32, subst, sym, ap, ◌∙◌, ◌++◌, arith}
use Rattle.std.proofs.lemmas.Int.{ints}
use Rattle.mf_rows.specs.Dots.{place}
use Rattle.mf_rows.specs.Order.{Fits}
use Rattle.mf_rows.specs.Runs.{dots_of}
use Rattle.mf_rows.proofs.RunCorners.{built_with, run_built}
use Rattle.mf_rows.proofs.builder.RowBuilder.push_run.Goals as goal

pub invariant_of-self-2 : goal.invariant_of-self-2
unfolding place
invariant_of-self-2 c =
    let run = c.requires.run in
    let end : to_z w32 (of_z w32 (to_z w32 (of_z w32 c.place.result) +ℤ to_z w32 c.args.run.len)) ≡ place c.args.run.x c.args.run.y +ℤ pos c.args.run.len = omega (arith, ints) in
    rw (c.in_ok-extend_from_slice.ensures.items, c.corners_of.ensures, end)
    (built_with _ _ c.args.run c.self.invariant (subst (λ ds. Fits ds c.args.run) (sym c.self.view_is) c.requires))

pub returns-clause-ok : goal.returns-clause-ok
returns-clause-ok c =
    rw (c.in_ok-extend_from_slice.ensures.items, c.corners_of.ensures)
    (run_built _ _ c.args.run c.self.invariant (subst (λ ds. Fits ds c.args.run) (sym c.self.view_is) c.requires)
    ∙ ap (λ ds. ds ++ dots_of c.args.run) c.self.view_is)
