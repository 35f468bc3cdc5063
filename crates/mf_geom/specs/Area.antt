-- The area that a closed path encloses.
use Rattle.std.specs.Prelude.{ℕ, ℤ, pos, ◌-ℤ◌, ◌*ℤ◌, List, length, int_div}
use Rattle.mf_geom.specs.declared.point.Point.{Point}
use Rattle.mf_geom.specs.Path.{point_at, next_place}
use Rattle.mf_geom.specs.Sum.{sum_below}

-- what the segment from vertex i to the next contributes to the shoelace sum
unfoldable pub shoelace_at : List Point → ℕ → ℤ
shoelace_at ps i = ((point_at ps i).x *ℤ (point_at ps (next_place ps i)).y) -ℤ ((point_at ps (next_place ps i)).x *ℤ (point_at ps i).y)

-- the signed area, positive counterclockwise: half the shoelace sum
unfoldable pub area : List Point → ℤ
area ps = int_div (sum_below (length ps) (shoelace_at ps)) (pos 2)
