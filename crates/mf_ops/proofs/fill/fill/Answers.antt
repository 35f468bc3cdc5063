use Rattle.std.proofs.Common.{to_z-of_z, refl, sym}
use Rattle.std.proofs.lemmas.Result.{err_from_is_err_and}
use Rattle.mf_geom.specs.declared.check.Check.TheVariants.{Off}
use Rattle.mf_rows.proofs.PicturePiles.{unlawful_as}
use Rattle.mf_ops.specs.declared.op.Op.TheVariants.{Contour}
use Rattle.mf_ops.proofs.Faults.{HasWeights-same, makes_anyway, op_fault-sum_fault, stays_anyway}
use Rattle.mf_ops.proofs.Sides.{with_corners_at-contour}
use Rattle.mf_ops.proofs.fill.fill.Goals as goal

pub returns-in_err-add_corners-clause-refused : goal.returns-in_err-add_corners-clause-refused
returns-in_err-add_corners-clause-refused c =
    let ds = c.args.picture.now in
    let op = Contour c.args.cycle.now c.args.weight Off in
    let weight_is = to_z-of_z c.ranges.weight in
    let same = with_corners_at-contour ds c.args.cycle.now c.args.weight _ (rw weight_is at c.in_ok-corners.ensures.added) in
    let passed_on = err_from_is_err_and c.from_residual-in_err-add_corners.result c.from_residual-in_err-add_corners.ensures.1 in
    rw (passed_on.1, passed_on.2)
    (op_fault-sum_fault ds op _ (stays_anyway ds op refl refl)
    (λ other. unlawful_as (c.in_err-add_corners.ensures.too_large other) (λ inside. sym (same _ _))))

pub returns : goal.returns
returns c =
    let ds = c.args.picture.now in
    let op = Contour c.args.cycle.now c.args.weight Off in
    let same = with_corners_at-contour ds c.args.cycle.now c.args.weight _ (rw (to_z-of_z c.ranges.weight) at c.in_ok-corners.ensures.added) in
    let has = HasWeights-same _ _ _ same c.in_ok-add_corners.ensures.weights in
    let made = makes_anyway ds op _ refl refl c.in_ok-add_corners.ensures.lawful has in
    record { step = made.0; accepted = made.1; unchanged = tt; refused = tt }
