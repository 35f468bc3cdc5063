-- Pictures as maps from pixels to weights (The METAFONTbook, chapter 13): the list of the pixels of nonzero weight in
-- reading order, rows from the top down and columns from left to right.
use Rattle.std.specs.Prelude.{◌≢◌, ◌&&◌, ℤ, pos, ◌+ℤ◌, ◌-ℤ◌, ◌*ℤ◌, ◌≤ℤ◌, List, [], ◌∷◌, if◌then◌else◌}
use Rattle.std.specs.Ordering.{int_eq}
use Rattle.mf_geom.specs.Coordinates.{least_coordinate, last_in_field, field_size}
use Rattle.mf_geom.specs.Field.{IsInField}
use Rattle.mf_rows_edges.specs.LawfulWeights.{IsLawfulWeight}

-- a pixel (x, y) of nonzero weight
pub record Dot : Type 0 where
  pub y : ℤ
  pub x : ℤ
  pub weight : ℤ

-- a dot lies in the field, and its weight is lawful and not 0
pub record IsDot (d : Dot) : Type 0 where
  pub in_field : IsInField d.x d.y
  pub lawful : IsLawfulWeight d.weight
  pub nonzero : d.weight ≢ pos 0

-- the place of the pixel (x, y) in reading order
unfoldable pub place : ℤ → ℤ → ℤ
place x y = x -ℤ (pos field_size *ℤ y)

-- dots in reading order, the first of them at a place from low on
abbrev pub AreDotsFrom : ℤ → List Dot → Type 0
AreDotsFrom low [] = Unit {0}
AreDotsFrom low (d ∷ ds) = IsDot d × (low ≤ℤ place d.x d.y) × AreDotsFrom (place d.x d.y +ℤ pos 1) ds

-- the place of the first pixel of the field, at the left end of its top row
unfoldable pub start_of_field : ℤ
start_of_field = place least_coordinate last_in_field

-- a picture: lawful dots in reading order, none twice
pub record IsPicture (ds : List Dot) : Type 0 where
  pub dots : AreDotsFrom start_of_field ds

-- the weight of the pixel (x, y), 0 where there is no dot
unfoldable pub weight_at : List Dot → ℤ → ℤ → ℤ
weight_at [] x y = pos 0
weight_at (d ∷ ds) x y = if int_eq d.x x && int_eq d.y y then d.weight else weight_at ds x y

-- the total weight: the sum of all weights
unfoldable pub total_of : List Dot → ℤ
total_of [] = pos 0
total_of (d ∷ ds) = d.weight +ℤ total_of ds
