-- The winding number, counted at a ray instead of in quarter turns: how often, and in which direction, a
-- cycle crosses the ray that leads left from the centre of the pixel.
use Rattle.std.specs.Prelude.{ℕ, ℤ, pos, ◌-ℤ◌, ◌*ℤ◌, int_lt, List, if◌then◌else◌}
use Rattle.mf_geom.specs.declared.point.Point.{Point}
use Rattle.mf_geom.specs.Path.{Segment, segment_at}

-- the unit step: 1 where a is at most x, and 0 where it is greater
unfoldable pub unit_step : ℤ → ℤ → ℤ
unit_step x a = if int_lt x a then pos 0 else pos 1

-- how a segment that is parallel to an axis crosses the ray that leads left from the centre of the pixel
-- (x, y): 1 downwards, -1 upwards, 0 not at all
unfoldable pub crossing : ℤ → ℤ → Segment → ℤ
crossing x y e = unit_step x e.from.x *ℤ (unit_step y e.to.y -ℤ unit_step y e.from.y)

-- how the segment that leaves vertex i crosses that ray
unfoldable pub crossing_at : List Point → ℤ → ℤ → ℕ → ℤ
crossing_at ps x y i = crossing x y (segment_at ps i)
