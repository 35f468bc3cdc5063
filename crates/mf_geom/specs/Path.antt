-- Closed paths, as lists of their points.
use Rattle.std.specs.Prelude.{◌≡◌, ◌≢◌, ℕ, ◌+◌, ◌-◌, ◌==◌, ◌⊎◌, ℤ, pos, ◌+ℤ◌, ◌-ℤ◌, ◌*ℤ◌, ◌<ℤ◌, List, length, slice_index_or, if◌then◌else◌}
use Rattle.mf_geom.specs.Coordinates.{IsCoordinate}
use Rattle.mf_geom.specs.declared.point.Point.{Point}

-- the point at place i, (0, 0) where there is none
unfoldable pub point_at : List Point → ℕ → Point
point_at ps i = slice_index_or ps i (record { x = pos 0; y = pos 0 })

-- the place after i: after the last point comes the first
unfoldable pub next_place : List Point → ℕ → ℕ
next_place ps i = if i + 1 == length ps then 0 else i + 1

-- the place before i: before the first point comes the last
unfoldable pub previous_place : List Point → ℕ → ℕ
previous_place ps i = if i == 0 then length ps - 1 else i - 1

-- a segment leads straight from one point to another
pub record Segment : Type 0 where
  pub from : Point
  pub to : Point

-- the segment that leaves vertex i
unfoldable pub segment_at : List Point → ℕ → Segment
segment_at ps i = record { from = point_at ps i; to = point_at ps (next_place ps i) }

-- the segment that arrives at vertex i
unfoldable pub segment_into : List Point → ℕ → Segment
segment_into ps i = segment_at ps (previous_place ps i)

-- how far a segment leads to the right
unfoldable pub across : Segment → ℤ
across e = e.to.x -ℤ e.from.x

-- how far a segment leads up
unfoldable pub up : Segment → ℤ
up e = e.to.y -ℤ e.from.y

-- a point is in range where both of its coordinates are
pub record IsInRange (p : Point) : Type 0 where
  pub x : IsCoordinate p.x
  pub y : IsCoordinate p.y

-- a segment is rectilinear where its ends differ in exactly one coordinate
unfoldable pub IsRectilinear : Segment → Type 0
IsRectilinear e = ((across e ≢ pos 0) × (up e ≡ pos 0)) ⊎ ((across e ≡ pos 0) × (up e ≢ pos 0))

-- the path turns straight back from the first segment to the second: for segments parallel to an axis that is where their
-- scalar product is negative
pub record IsReversal (a b : Segment) : Type 0 where
  pub opposite : ((across a *ℤ across b) +ℤ (up a *ℤ up b)) <ℤ pos 0
