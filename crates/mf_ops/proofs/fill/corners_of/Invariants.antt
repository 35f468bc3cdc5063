use Rattle.std.proofs.Common.{◌++◌}
use Rattle.mf_ops.proofs.Sides.{AreSides}
use Rattle.mf_ops.proofs.fill.corners_of.Given as goal

abbrev pub invariant-loop-place : goal.invariant-loop-place
invariant-loop-place l = AreSides l.cycle l.weight l.place (l.rising.items ++ l.falling.items)
