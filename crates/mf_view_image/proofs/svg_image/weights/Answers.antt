use Rattle.std.proofs.Common.{◌≡◌, to_z, of_z, w32, arith}
use Rattle.std.specs.Int.{int_max, int_min}
use Rattle.std.proofs.lemmas.Int.{clamps, ints}
use Rattle.mf_text_show.proofs.WrittenRuns.{first_is_lawful}
use Rattle.mf_view_image.proofs.PathTexts.{one_more_spanned, all_spanned}
use Rattle.mf_view_image.proofs.svg_image.weights.Goals as goal
use Rattle.mf_rows.proofs.PassedRuns.{runs_are_lawful}

pub loop-run-init : goal.loop-run-init
loop-run-init c = grind (arith, ints, runs_are_lawful, c.runs-run-items.ensures.lawful)

pub loop-run-preserved : goal.loop-run-preserved
loop-run-preserved c =
    let run = first_is_lawful _ _ _ c.in-Some.ensures.steps c.loop-run.invariant.runs in
    let w = c.in-Some.run'.weight in
    let least : to_z w32 (of_z w32 c.min-least.result) ≡ int_min (to_z w32 c.loop-run.least-bits) w =
    omega (arith, ints, clamps, c.min-least.ensures.value, run.lawful.least, run.lawful.greatest) in
    let greatest : to_z w32 (of_z w32 c.max-greatest.result) ≡ int_max (to_z w32 c.loop-run.greatest-bits) w =
    omega (arith, ints, clamps, c.max-greatest.ensures.value, run.lawful.least, run.lawful.greatest) in
    one_more_spanned c.in-Some.ensures.steps least greatest c.loop-run.invariant

pub returns-clause-least : goal.returns-clause-least
returns-clause-least c = (all_spanned c.in-None.ensures.steps.0 c.loop-run.invariant).0

pub returns-clause-greatest : goal.returns-clause-greatest
returns-clause-greatest c = (all_spanned c.in-None.ensures.steps.0 c.loop-run.invariant).1
