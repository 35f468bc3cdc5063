use Rattle.mf_ops.proofs.MovedTotals.{total_of-scale, total_of-shift, total_of-turn}
use Rattle.mf_ops.proofs.laws.totals_after_moves.Goals as goal
use Rattle.std.proofs.Common.{arith}

pub returns : goal.returns
returns c = grind (arith, total_of-shift, total_of-turn, total_of-scale)
