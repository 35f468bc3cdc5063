use Rattle.mf_geom.specs.Area.{shoelace_at}
use Rattle.mf_geom.proofs.PartialSums.{IsSumTo}
use Rattle.mf_geom.proofs.path.area.Given as goal

abbrev pub invariant-loop-segment : goal.invariant-loop-segment
invariant-loop-segment l = IsSumTo 134152200 (shoelace_at l.points) l.segment l.doubled
