-- The picture that has given weights.
use Rattle.std.specs.Prelude.{◌≡◌, ℕ, zero, suc, ℤ, pos, ◌+ℤ◌, ◌-ℤ◌, List, [], ◌∷◌, ◌++◌, if◌then◌else◌}
use Rattle.std.specs.Ordering.{int_eq}
use Rattle.mf_geom.specs.Coordinates.{least_coordinate, last_in_field, field_size}
use Rattle.mf_geom.specs.Field.{IsInField}
use Rattle.mf_rows.specs.Dots.{Dot, weight_at}

-- the pixels of row y at which f is not 0, among the n columns from x to the right
unfoldable pub row_of : (ℤ → ℤ → ℤ) → ℤ → ℤ → ℕ → List Dot
row_of f y x zero = []
row_of f y x (suc n) = if int_eq (f x y) (pos 0) then row_of f y (x +ℤ pos 1) n else (record { y = y; x = x; weight = f x y } ∷ row_of f y (x +ℤ pos 1) n)

-- the pixels at which f is not 0, in the n rows from y downwards and all columns of the field
unfoldable pub rows_of : (ℤ → ℤ → ℤ) → ℤ → ℕ → List Dot
rows_of f y zero = []
rows_of f y (suc n) = row_of f y least_coordinate field_size ++ rows_of f (y -ℤ pos 1) n

-- the picture whose weight at each pixel (x, y) of the field is f x y
unfoldable pub picture_of : (ℤ → ℤ → ℤ) → List Dot
picture_of f = rows_of f last_in_field field_size

-- two pictures have the same weight at each pixel of the field
pub record HaveSameWeights (ds es : List Dot) : Type 0 where
  pub same : (x y : ℤ) → IsInField x y → weight_at ds x y ≡ weight_at es x y
