use Rattle.std.proofs.Common.{pos, ◌-ℤ◌}
use Rattle.std.specs.Int.RustNames.{unsigned_abs}
use Rattle.mf_geom.specs.Coordinates.{greatest_coordinate}
use Rattle.mf_rows.proofs.BlackRuns.{HasPassedOnly}
use Rattle.mf_rows.proofs.walk.Walk.next_black.Given as goal

abbrev pub invariant-loop-self : goal.invariant-loop-self
invariant-loop-self l = HasPassedOnly (pos 0) l.fn.self l.self

abbrev pub decreases-loop-self : goal.decreases-loop-self
decreases-loop-self l = unsigned_abs (greatest_coordinate -ℤ l.self.x)
