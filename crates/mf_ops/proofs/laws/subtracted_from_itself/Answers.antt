use Rattle.std.proofs.Common.{[], sym, arith}
use Rattle.std.proofs.lemmas.Int.{ints}
use Rattle.mf_rows.specs.declared.sign.Sign.TheVariants.{Minus}
use Rattle.mf_rows.specs.Dots.{weight_at}
use Rattle.mf_ops.specs.declared.op.Op.TheVariants.{Also}
use Rattle.mf_ops.proofs.Faults.{next_picture-from_weights}
use Rattle.mf_ops.proofs.laws.subtracted_from_itself.Goals as goal

pub returns : goal.returns
unfolding weight_at
returns c ds = sym (next_picture-from_weights ds (Also ds Minus) [] (record { dots = tt }) (record { weights = λ x y in_field. omega (arith, ints) }))
