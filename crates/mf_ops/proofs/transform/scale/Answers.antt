use Rattle.std.proofs.Common.{◌≢◌, Some, IsTrue, refl, ap, ◌∙◌, arith}
use Rattle.std.proofs.lemmas.Bool.{both_ways}
use Rattle.mf_ops.specs.Moves.{scale_by}
use Rattle.mf_ops.specs.Step.{op_fault}
use Rattle.mf_ops.specs.declared.op.Op.TheVariants.{Scale}
use Rattle.mf_ops.specs.declared.op.OpFault.TheVariants.{OutOfField}
use Rattle.mf_ops.proofs.Faults.{IsForWeights, made-from_weights, op_fault-leaves, not_out}
use Rattle.mf_ops.proofs.Leaving.{some_leaves, stays_in_field-scale}
use Rattle.mf_ops.proofs.Scaling.{factor_passed, stretches_made, IsStretch-made, HasWeights-scale, PixelsStayInside-reflected}
use Rattle.mf_ops.proofs.transform.scale.Goals.{After-pixels_stay_inside}
use Rattle.mf_ops.proofs.transform.scale.Goals as goal
use Rattle.std.proofs.lemmas.Int.{ints}

pub returns-then-not-pixels_stay_inside-clause-refused : goal.returns-then-not-pixels_stay_inside-clause-refused
returns-then-not-pixels_stay_inside-clause-refused c other =
    let columns = c.stretch.ensures ∙ ap scale_by (factor_passed _ _ c.x-x.ensures.factor c.x-x.ensures.value) in
    let rows = c.stretch-2.ensures ∙ ap scale_by (factor_passed _ _ c.y-y.ensures.factor c.y-y.ensures.value) in
    op_fault-leaves c.args.picture.now (Scale c.args.scale) (record { none = refl })
    (some_leaves _ _ _ (λ inside. both_ways _ c.if-not-pixels_stay_inside.true (c.pixels_stay_inside.ensures.1 (rw (columns, rows) inside))))

pub stretch-requires-5 : goal.stretch-requires-5
stretch-requires-5 c =
    let x = stretches_made c.x-x.ensures.factor c.x-x.ensures.value c.stretch.ensures c.abs.ensures.value c.stretch-3.ensures in
    let y = stretches_made c.y-y.ensures.factor c.y-y.ensures.value c.stretch-2.ensures c.abs-2.ensures.value c.stretch-4.ensures in
    let reflected = c.in_ok-reflected.ensures in
    record {
      columns = IsStretch-made x;
      rows = IsStretch-made y;
      inside = grind (arith, ints, PixelsStayInside-reflected, reflected, c.pixels_stay_inside.ensures.0 c.if-not-pixels_stay_inside.false);
    }

pub returns : goal.returns
returns c =
    let ds = c.args.picture.now in
    let s = c.args.scale in
    let x = stretches_made c.x-x.ensures.factor c.x-x.ensures.value c.stretch.ensures c.abs.ensures.value c.stretch-3.ensures in
    let y = stretches_made c.y-y.ensures.factor c.y-y.ensures.value c.stretch-2.ensures c.abs-2.ensures.value c.stretch-4.ensures in
    let has = HasWeights-scale ds s x y c.in_ok-reflected.ensures.weights c.in_ok-stretch.ensures.weights in
    let stays = stays_in_field-scale ds s (rw (x.signed_is, y.signed_is) at (c.pixels_stay_inside.ensures.0 c.if-not-pixels_stay_inside.false)) in
    let picture = c.in_ok-stretch.ensures.lawful in
    let made = made-from_weights ds (Scale s) _ stays picture has in
    record { step = made.0; accepted = made.1; refused = tt; out_of_field = λ out. absurd (not_out ds (Scale s) stays out) }

never_out : (c : After-pixels_stay_inside) → IsTrue c.pixels_stay_inside.result → op_fault c.args.picture.now (Scale c.args.scale) ≢ Some OutOfField
never_out c inside =
    let stays : IsForWeights c.args.picture.now (Scale c.args.scale) = grind (arith, factor_passed, stays_in_field-scale) in not_out _ _ stays

pub returns-in_err-reflected-clause-out_of_field : goal.returns-in_err-reflected-clause-out_of_field
returns-in_err-reflected-clause-out_of_field c =
    let never = never_out (goal.at.returns-in_err-reflected-clause-out_of_field c).After-pixels_stay_inside in grind arith

pub returns-in_err-stretch-clause-out_of_field : goal.returns-in_err-stretch-clause-out_of_field
returns-in_err-stretch-clause-out_of_field c =
    let never = never_out (goal.at.returns-in_err-stretch-clause-out_of_field c).After-pixels_stay_inside in grind arith
