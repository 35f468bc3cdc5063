-- Where reflections and stretches of an axis take its points, and where its columns, or rows, come from.
use Rattle.std.specs.Prelude.{ℤ, pos, neg_ℤ, ◌+ℤ◌, ◌-ℤ◌, ◌*ℤ◌, ◌≤ℤ◌}
use Rattle.std.specs.Int.{int_div_euclid}
use Rattle.mf_geom.specs.Coordinates.{IsCoordinate, greatest_coordinate}
use Rattle.mf_rows_edges.specs.declared.stretch.Stretch.{Stretch}

-- the column, or row, that is the reflection of p in 0: its pixels lie between -p - 1 and -p
abbrev pub opposite : ℤ → ℤ
opposite p = neg_ℤ p -ℤ pos 1

-- a stretch has a factor from 1 to the greatest coordinate
pub record IsStretch (s : Stretch) : Type 0 where
  pub least : pos 1 ≤ℤ s.factor
  pub greatest : s.factor ≤ℤ greatest_coordinate

-- where a stretch takes the point x of an axis
abbrev pub target_of : Stretch → ℤ → ℤ
target_of s x = (x *ℤ s.factor) +ℤ s.offset

-- the column, or row, from which column, or row, q comes under a stretch whose factor is positive
unfoldable pub source_of : Stretch → ℤ → ℤ
source_of s q = int_div_euclid (q -ℤ s.offset) s.factor

-- a stretch takes the column, or row, p to a part of the field: both ends of that have coordinates in range
pub record StaysInside (s : Stretch) (p : ℤ) : Type 0 where
  pub start : IsCoordinate (target_of s p)
  pub end : IsCoordinate (target_of s (p +ℤ pos 1))
