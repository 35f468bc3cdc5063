-- How far a walk over pixels has read a row.
use Rattle.std.specs.Prelude.{◌≡◌, ℤ, pos, ◌+ℤ◌, ◌-ℤ◌, ◌≤ℤ◌, ◌<ℤ◌}
use Rattle.std.proofs.Props.{props}
use Rattle.mf_geom.specs.Coordinates.{least_coordinate, greatest_coordinate, last_in_field}
use Rattle.mf_rows_strips.specs.RowEdges.{AreSameRows}

-- in row y, whose weights are those of f, column x has weight w, and the edges to the right of it add the weights g to w; the
-- rows down to row `bottom` are equal to it. Column x is one of the field or next to it, and nothing is said of the columns to
-- the left of it
pub record IsReading (f : ℤ → ℤ → ℤ) (g : ℤ → ℤ) (x y w bottom : ℤ) : Type 0 where
  pub left : (least_coordinate -ℤ pos 1) ≤ℤ x
  pub right : x ≤ℤ greatest_coordinate
  pub top : y ≤ℤ last_in_field
  pub before : (z : ℤ) → z ≤ℤ x → g z ≡ pos 0
  pub after : (z : ℤ) → x ≤ℤ z → f z y ≡ w +ℤ g z
  pub rows : AreSameRows f bottom y

-- the rows from row `bottom` up to the one below row y are blank
pub record AreBlankBelow (f : ℤ → ℤ → ℤ) (bottom y : ℤ) : Type 0 where
  pub low : least_coordinate ≤ℤ bottom
  pub order : bottom ≤ℤ y
  pub blank : (x v : ℤ) → least_coordinate ≤ℤ x → x <ℤ greatest_coordinate → bottom ≤ℤ v → v <ℤ y → f x v ≡ pos 0

-- this fact has at most one proof
pub IsReading-prop : (f : ℤ → ℤ → ℤ) (g : ℤ → ℤ) (x y w bottom : ℤ) → IsProp (IsReading f g x y w bottom)
IsReading-prop f g x y w bottom = hlevel props
