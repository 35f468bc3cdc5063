use Rattle.std.proofs.Common.{refl}
use Rattle.mf_ops.proofs.Faults.{makes_anyway}
use Rattle.mf_rows.specs.Dots.{weight_at}
use Rattle.mf_ops.specs.declared.op.Op.TheVariants.{Clear}
use Rattle.mf_ops.proofs.op.after_clear.Goals as goal

pub returns : goal.returns
unfolding weight_at
returns c =
    let made = makes_anyway c.args.picture.now Clear _ refl refl (record { dots = tt }) (record { weights = λ x y in_field. refl }) in
    record { step = rw c.blank.ensures made.0; accepted = made.1 }
