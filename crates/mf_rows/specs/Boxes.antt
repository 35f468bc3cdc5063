-- Boxes as values: the one round two others, the least box of a picture, and how large a box is.
use Rattle.std.specs.Prelude.{◌<◌, ◌⊎◌, ◌≤ℤ◌, ◌+ℤ◌, ◌-ℤ◌, ℕ, ℤ, List, [], ◌∷◌, Option, None, Some, pos}
use Rattle.std.specs.Int.{int_max, int_min}
use Rattle.std.specs.Int.RustNames.{unsigned_abs}
use Rattle.mf_geom.specs.Coordinates.{least_coordinate, last_in_field}
use Rattle.mf_rows.specs.declared.bounds.Box4.{Box4}
use Rattle.mf_rows.specs.Dots.{Dot}

-- the least box round two boxes
abbrev pub box_round_both : Box4 → Box4 → Box4
box_round_both a b = record {
  min_x = int_min a.min_x b.min_x;
  max_x = int_max a.max_x b.max_x;
  min_y = int_min a.min_y b.min_y;
  max_y = int_max a.max_y b.max_y;
}

-- the box of one dot
abbrev pub box_of_dot : Dot → Box4
box_of_dot d = record { min_x = d.x; max_x = d.x; min_y = d.y; max_y = d.y }

-- the least box of a dot and others
unfoldable pub box_of_dots : Dot → List Dot → Box4
box_of_dots d [] = box_of_dot d
box_of_dots d (e ∷ ds) = box_round_both (box_of_dot d) (box_of_dots e ds)

-- the least box of a picture, none where it is blank
unfoldable pub box_of : List Dot → Option Box4
box_of [] = None
box_of (d ∷ ds) = Some (box_of_dots d ds)

-- a box is not empty, and its columns and rows are in the field
pub record IsBoxOfField (b : Box4) : Type 0 where
  pub left : least_coordinate ≤ℤ b.min_x
  pub right : b.max_x ≤ℤ last_in_field
  pub bottom : least_coordinate ≤ℤ b.min_y
  pub top : b.max_y ≤ℤ last_in_field
  pub columns : b.min_x ≤ℤ b.max_x
  pub rows : b.min_y ≤ℤ b.max_y

-- the number of columns, or rows, from the first to the last, both inclusive, where the first is not greater than the last
abbrev pub extent : ℤ → ℤ → ℕ
extent first last = unsigned_abs ((last -ℤ first) +ℤ pos 1)

-- a box has more columns, or more rows, than this
abbrev pub IsLargerThan : ℕ → Box4 → Type 0
IsLargerThan most b = (most < extent b.min_x b.max_x) ⊎ (most < extent b.min_y b.max_y)
