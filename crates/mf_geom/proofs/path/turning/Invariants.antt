use Rattle.mf_geom.specs.Turning.{turn_at}
use Rattle.mf_geom.proofs.PartialSums.{IsSumTo}
use Rattle.mf_geom.proofs.path.turning.Given as goal

abbrev pub invariant-loop-vertex : goal.invariant-loop-vertex
invariant-loop-vertex l = IsSumTo 1 (turn_at l.points) l.vertex l.turns
