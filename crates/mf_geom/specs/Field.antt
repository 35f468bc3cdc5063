-- The field: the pixels that may have a weight other than 0 (mf.web: the limits on edge structures).
use Rattle.std.specs.Prelude.{ℤ, pos, ◌+ℤ◌, ◌≤ℤ◌}
use Rattle.mf_geom.specs.Coordinates.{least_coordinate, last_in_field, field_size}
use Rattle.mf_geom.specs.Sum.{sum_below}

-- a column, or row, of the field
pub record IsColumnOrRow (p : ℤ) : Type 0 where
  pub least : least_coordinate ≤ℤ p
  pub greatest : p ≤ℤ last_in_field

-- the pixel (x, y) lies in the field
pub record IsInField (x y : ℤ) : Type 0 where
  pub left : least_coordinate ≤ℤ x
  pub right : x ≤ℤ last_in_field
  pub bottom : least_coordinate ≤ℤ y
  pub top : y ≤ℤ last_in_field

-- the sum of f x y over the pixels (x, y) of the field
unfoldable pub sum_over_field : (ℤ → ℤ → ℤ) → ℤ
sum_over_field f = sum_below field_size (λ j. sum_below field_size (λ i. f (least_coordinate +ℤ pos i) (least_coordinate +ℤ pos j)))
