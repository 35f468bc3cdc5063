use Rattle.std.proofs.Common.{refl}
use Rattle.mf_ops.proofs.Faults.{not_turning}
use Rattle.mf_ops.specs.declared.op.Op.TheVariants.{Shift}
use Rattle.mf_ops.proofs.op.after.Goals as goal

pub returns-in-Shift-clause-turning : goal.returns-in-Shift-clause-turning
returns-in-Shift-clause-turning c fault found = absurd (not_turning c.args.picture.now (Shift _ _) fault (record { none = refl }) (rw c.in-Shift.is at found))
