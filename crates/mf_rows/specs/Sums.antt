-- The weights of two pictures together.
use Rattle.std.specs.Prelude.{◌≡◌, ℤ, ◌+ℤ◌, ◌-ℤ◌, List}
use Rattle.mf_geom.specs.Field.{IsInField}
use Rattle.mf_rows.specs.Dots.{Dot, weight_at}
pub use Rattle.mf_rows_strips.specs.Strips.{IsUnlawfulSomewhere}

-- a picture has the weight f x y at each pixel (x, y) of the field
pub record HasWeights (f : ℤ → ℤ → ℤ) (ds : List Dot) : Type 0 where
  pub weights : (x y : ℤ) → IsInField x y → weight_at ds x y ≡ f x y

-- the weight of the pixel (x, y) in two pictures together
unfoldable pub sum_at : List Dot → List Dot → ℤ → ℤ → ℤ
sum_at ds es x y = weight_at ds x y +ℤ weight_at es x y

-- the weight of the pixel (x, y) in a picture, minus that in another
unfoldable pub difference_at : List Dot → List Dot → ℤ → ℤ → ℤ
difference_at ds es x y = weight_at ds x y -ℤ weight_at es x y
