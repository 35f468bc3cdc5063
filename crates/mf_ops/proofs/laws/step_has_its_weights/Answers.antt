use Rattle.mf_rows.proofs.WeightsLemmas.{weight_at-picture_of}
use Rattle.mf_ops.specs.Step.{next_picture}
use Rattle.mf_ops.proofs.Faults.{IsPicture-next_picture}
use Rattle.mf_ops.proofs.laws.step_has_its_weights.Goals as goal
use Rattle.std.proofs.Common.{arith}

pub returns : goal.returns
unfolding next_picture
returns c = grind (arith, weight_at-picture_of, IsPicture-next_picture)
