use Rattle.std.proofs.Common.{refl}
use Rattle.mf_ops.specs.declared.op.Op.TheVariants.{Quarter}
use Rattle.mf_ops.proofs.Faults.{makes_anyway}
use Rattle.mf_ops.proofs.transform.turn.Goals as goal

pub returns : goal.returns
returns c =
    let turned = c.in_ok-turned_picture.ensures in
    let made = makes_anyway c.args.picture.now (Quarter c.args.quarter) _ refl refl turned.lawful turned.weights in
    record { step = made.0; accepted = made.1; refused = tt }
