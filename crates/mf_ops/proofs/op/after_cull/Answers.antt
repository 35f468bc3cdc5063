use Rattle.std.proofs.Common.{refl}
use Rattle.mf_ops.proofs.Faults.{HasWeights-same, makes_anyway}
use Rattle.mf_rows.specs.Dots.{weight_at}
use Rattle.mf_ops.specs.declared.op.Op.TheVariants.{Cull}
use Rattle.mf_ops.proofs.op.after_cull.Goals as goal

pub returns : goal.returns
returns c =
    let ds = c.args.picture.now in
    let has = HasWeights-same _ _ _ (λ x y. c.weight_map.ensures.value (weight_at ds x y)) c.in_ok-map_weights.ensures.weights in
    let made = makes_anyway ds (Cull c.args.cull) _ refl refl c.in_ok-map_weights.ensures.lawful has in
    record { step = made.0; accepted = made.1; refused = tt; blank = λ blank. refl }
