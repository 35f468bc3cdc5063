use Rattle.std.proofs.Common.{◌≡◌, to_z, of_z, w32, refl, ◌∙◌, arith}
use Rattle.std.proofs.lemmas.Int.{ints}
use Rattle.mf_rows.proofs.PassedPixels.{entered}
use Rattle.mf_rows.proofs.walk.Walk.of.Goals as goal

pub invariant_of-result : goal.invariant_of-result
invariant_of-result c =
    let enter = c.enter-bottom in
    let bottom : to_z w32 (of_z w32 enter.result) ≡ enter.result = omega (arith, ints) in
    record { reading = rw (enter.ensures.same, bottom) (entered c.of-edges.result _ _ _ (omega (arith, ints)) enter.ensures.row enter.ensures.rows) }

pub returns : goal.returns
returns c = record { weights = c.enter-bottom.ensures.same ∙ c.of-edges.ensures; column = omega (arith, ints); row = refl }
