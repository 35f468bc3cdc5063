-- Corners that are added to a picture, and those of runs.
use Rattle.std.specs.Prelude.{ℤ, pos, neg_ℤ, ◌+ℤ◌, ◌≤ℤ◌, List, [], ◌∷◌}
use Rattle.mf_rows_strips.specs.declared.corner.Corner.{Corner}
use Rattle.mf_rows_strips.specs.Corners.{AreSweptCorners}
use Rattle.mf_rows.specs.declared.run.Run.{Run}
use Rattle.mf_rows.specs.Dots.{Dot, start_of_field, weight_at}
use Rattle.mf_rows.specs.Order.{AreBefore}
use Rattle.mf_rows.specs.Weights.{picture_of}
unfoldable pub use Rattle.mf_rows_strips.specs.Corners.{added_by, added_by_all}
pub use Rattle.mf_rows_strips.specs.Corners.{greatest_corner_weight, IsCornerWeight, IsCorner, AreCorners, IsCornerInRange}

-- the weight of the pixel (x, y) after corners are added to a picture
unfoldable pub with_corners_at : List Dot → List Corner → ℤ → ℤ → ℤ
with_corners_at ds ks x y = weight_at ds x y +ℤ added_by_all ks x y

-- the corners of a run, at its upper and at its lower ends
unfoldable pub corners_of : Run → List Corner
corners_of r =
    record { x = r.x; y = r.y +ℤ pos 1; weight = r.weight } ∷ record { x = r.x +ℤ pos r.len; y = r.y +ℤ pos 1; weight = neg_ℤ r.weight }
    ∷ record { x = r.x; y = r.y; weight = neg_ℤ r.weight } ∷ record { x = r.x +ℤ pos r.len; y = r.y; weight = r.weight } ∷ []

-- the picture that corners add to a blank one
abbrev pub picture_of_corners : List Corner → List Dot
picture_of_corners ks = picture_of (added_by_all ks)

-- corners whose picture ends before the place `end`, and before no earlier place from the first one of the field on
pub record AreBuilt (ks : List Corner) (end : ℤ) : Type 0 where
  pub swept : AreSweptCorners ks
  pub before : AreBefore end (picture_of_corners ks)
  pub least : (p : ℤ) → start_of_field ≤ℤ p → AreBefore p (picture_of_corners ks) → end ≤ℤ p
