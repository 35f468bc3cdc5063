use Rattle.std.proofs.Common.{◌≡◌, ◌-ℤ◌}
use Rattle.std.specs.Int.RustNames.{unsigned_abs}
use Rattle.mf_geom.specs.Coordinates.{least_coordinate}
use Rattle.mf_rows.specs.Remaining.{remaining_runs}
use Rattle.mf_rows.proofs.walk.Walk.find_run.Given as goal

abbrev pub invariant-loop-self : goal.invariant-loop-self
invariant-loop-self l = remaining_runs l.self ≡ remaining_runs l.fn.self

abbrev pub decreases-loop-self : goal.decreases-loop-self
decreases-loop-self l = unsigned_abs (l.self.y -ℤ least_coordinate)
