use Rattle.mf_ops.proofs.ScaleSources.{opposite-opposite, scale_source-reflection}
use Rattle.mf_ops.proofs.laws.turns_and_reflections_return.Goals as goal
use Rattle.std.proofs.Common.{arith}

pub returns : goal.returns
returns c = grind (arith, opposite-opposite, scale_source-reflection)
