-- How often a cycle turns (The METAFONTbook, chapter 13; mf.web, "turning number").
use Rattle.std.specs.Prelude.{ℕ, ℤ, pos, ◌-ℤ◌, ◌*ℤ◌, List, length, int_div}
use Rattle.std.specs.Int.{int_signum}
use Rattle.mf_geom.specs.declared.point.Point.{Point}
use Rattle.mf_geom.specs.Path.{Segment, across, up, segment_at, segment_into}
use Rattle.mf_geom.specs.Sum.{sum_below}

-- the turn from one segment to the next: 1 to the left, -1 to the right, 0 straight on or straight back
unfoldable pub turn : Segment → Segment → ℤ
turn a b = int_signum ((across a *ℤ up b) -ℤ (up a *ℤ across b))

-- the turn at vertex i
unfoldable pub turn_at : List Point → ℕ → ℤ
turn_at ps i = turn (segment_into ps i) (segment_at ps i)

-- the turning number: left turns less right turns, divided by 4; where the path turns straight back somewhere, it has none, and this
-- number says nothing
unfoldable pub turning : List Point → ℤ
turning ps = int_div (sum_below (length ps) (turn_at ps)) (pos 4)
