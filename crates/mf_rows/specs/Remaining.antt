-- What a walk over the pixels of a picture has left.
use Rattle.std.specs.Prelude.{◌≡◌, ℤ, pos, ◌-ℤ◌, ◌≤ℤ◌, ◌<ℤ◌, List, ◌++◌}
use Rattle.std.specs.Int.RustNames.{unsigned_abs}
use Rattle.mf_geom.specs.Coordinates.{least_coordinate, greatest_coordinate, last_in_field}
use Rattle.mf_rows.specs.declared.run.Run.{Run}
use Rattle.mf_rows.specs.declared.walk.Walk.{Walk}
use Rattle.mf_rows.specs.Dots.{Dot}
use Rattle.mf_rows.specs.Runs.{runs_of}
use Rattle.mf_rows_strips.specs.RowEdges.{weights_of}
use Rattle.mf_rows.specs.Weights.{row_of, rows_of}

-- the pixels of nonzero weight from column x of row y on, in reading order, where neither is beyond the field
unfoldable pub dots_from : (ℤ → ℤ → ℤ) → ℤ → ℤ → List Dot
dots_from f x y = row_of f y x (unsigned_abs (greatest_coordinate -ℤ x)) ++ rows_of f (y -ℤ pos 1) (unsigned_abs (y -ℤ least_coordinate))

-- the runs that are still to come
abbrev pub remaining_runs : Walk → List Run
remaining_runs w = runs_of (dots_from (weights_of w.edges) w.x w.y)

-- the pixels from that of s up to the one before that of t, in the same row, were passed: they have the weight of s
pub record HasPassed (s t : Walk) : Type 0 where
  pub weights : weights_of t.edges ≡ weights_of s.edges
  pub row : t.y ≡ s.y
  pub bottom : t.bottom ≡ s.bottom
  pub order : s.x ≤ℤ t.x
  pub same : (z : ℤ) → s.x ≤ℤ z → z <ℤ t.x → weights_of s.edges z s.y ≡ s.weight

-- of a walk over the weights f, no pixel of the field was passed yet
pub record IsAtStart (f : ℤ → ℤ → ℤ) (w : Walk) : Type 0 where
  pub weights : weights_of w.edges ≡ f
  pub column : w.x <ℤ least_coordinate
  pub row : w.y ≡ last_in_field

-- s and t are in the same row of the same weights, at any columns, and know the same rows below to be equal
pub record HasPassedRow (s t : Walk) : Type 0 where
  pub weights : weights_of t.edges ≡ weights_of s.edges
  pub row : t.y ≡ s.y
  pub bottom : t.bottom ≡ s.bottom
