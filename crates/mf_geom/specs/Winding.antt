-- How often a cycle winds round a pixel, and what filling it adds there (The METAFONTbook, chapters 13 and 24). The
-- winding number is counted by the quadrants round the pixel's centre that the path visits.
use Rattle.std.specs.Prelude.{ℕ, ℤ, pos, negsuc, ◌*ℤ◌, int_div, int_lt, List, length, if◌then◌else◌}
use Rattle.std.specs.Int.{int_signum}
use Rattle.mf_geom.specs.declared.check.Check.{Check}
use Rattle.mf_geom.specs.declared.check.Check.TheVariants.{Off, On}
use Rattle.mf_geom.specs.declared.point.Point.{Point}
use Rattle.mf_geom.specs.Path.{Segment, segment_at}
use Rattle.mf_geom.specs.Sum.{sum_below}
use Rattle.mf_geom.specs.Turning.{turning}

-- the four quadrants round the centre of a pixel, counterclockwise
pub data Quadrant : Type 0 where
  right_up : Quadrant
  left_up : Quadrant
  left_down : Quadrant
  right_down : Quadrant

-- the quadrant round the centre of the pixel (x, y) in which a point lies
unfoldable pub quadrant : ℤ → ℤ → Point → Quadrant
quadrant x y p = if int_lt x p.x then (if int_lt y p.y then right_up else right_down) else (if int_lt y p.y then left_up else left_down)

-- the quarter turns round the centre, positive counterclockwise, from one quadrant to the same or a neighbouring one
-- (a segment parallel to an axis leads to no other)
abbrev pub quarter : Quadrant → Quadrant → ℤ
quarter right_up left_up = pos 1
quarter left_up left_down = pos 1
quarter left_down right_down = pos 1
quarter right_down right_up = pos 1
quarter left_up right_up = negsuc 0
quarter left_down left_up = negsuc 0
quarter right_down left_down = negsuc 0
quarter right_up right_down = negsuc 0
quarter _ _ = pos 0

-- the quarter turns round the centre of the pixel (x, y) along a segment
unfoldable pub quarter_along : ℤ → ℤ → Segment → ℤ
quarter_along x y e = quarter (quadrant x y e.from) (quadrant x y e.to)

-- the quarter turns along the segment that leaves vertex i
unfoldable pub quarter_at : List Point → ℤ → ℤ → ℕ → ℤ
quarter_at ps x y i = quarter_along x y (segment_at ps i)

-- the winding number round the pixel (x, y): the quarter turns along all segments, divided by 4
unfoldable pub winding : List Point → ℤ → ℤ → ℤ
winding ps x y = int_div (sum_below (length ps) (quarter_at ps x y)) (pos 4)

-- the weight with which a cycle is filled: under the turning check it is negated where the cycle turns clockwise
abbrev pub filling_weight : Check → List Point → ℤ → ℤ
filling_weight On ps w = w *ℤ int_signum (turning ps)
filling_weight Off ps w = w

-- what filling the cycle with weight w adds to the pixel (x, y)
unfoldable pub contour : List Point → ℤ → Check → ℤ → ℤ → ℤ
contour ps w check x y = filling_weight check ps w *ℤ winding ps x y
