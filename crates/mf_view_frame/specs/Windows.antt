-- The window of cells that a frame shows, and its scale.
use Rattle.std.specs.Prelude.{◌≤◌, ◌≤ℤ◌, ℕ, zero, suc, ◌&&◌, Bool, ℤ, pos, ◌+ℤ◌, ◌-ℤ◌, nat_le, if◌then◌else◌}
use Rattle.std.specs.Int.{int_div_euclid}
use Rattle.std.specs.Int.RustNames.{unsigned_abs}
use Rattle.mf_geom.specs.Coordinates.{least_coordinate, greatest_coordinate, last_in_field}
use Rattle.mf_rows.specs.declared.bounds.Box4.{Box4}
use Rattle.mf_rows.specs.Boxes.{extent}
use Rattle.mf_view_frame.specs.declared.window.Window.{Window}
use Rattle.mf_view_frame.specs.Canvases.{Size, greatest_size, picture_lines}
use Rattle.mf_view_frame.specs.Cells.{cell_of}

-- the line of text that shows the cells of row j: line k shows the rows 2 * k and 2 * k + 1
unfoldable pub line_of : ℤ → ℤ
line_of j = int_div_euclid j (pos 2)

-- the window of a box at scale s: its columns of cells and the lines that show its rows of cells
unfoldable pub window_at : Box4 → ℤ → Window
window_at b s = record {
  scale = s;
  column = cell_of s b.min_x;
  columns = extent (cell_of s b.min_x) (cell_of s b.max_x);
  line = line_of (cell_of s b.min_y);
  lines = extent (line_of (cell_of s b.min_y)) (line_of (cell_of s b.max_y));
}

-- whether a window fits on a canvas
abbrev pub fits_on : Size → Window → Bool
fits_on canvas w = nat_le w.columns canvas.columns && nat_le w.lines (picture_lines canvas)

-- the first of n scales from s on at which the window of a box fits; the one after them where it fits at none
unfoldable pub first_fitting : Size → Box4 → ℤ → ℕ → ℤ
first_fitting canvas b s zero = s
first_fitting canvas b s (suc n) = if fits_on canvas (window_at b s) then s else first_fitting canvas b (s +ℤ pos 1) n

-- the number of scales below the greatest one
abbrev pub lesser_scales : ℕ
lesser_scales = unsigned_abs (greatest_coordinate -ℤ pos 1)

-- the scale of a box on a canvas: the least at which its window fits, as each does at the greatest scale
unfoldable pub scale_of : Size → Box4 → ℤ
scale_of canvas b = first_fitting canvas b (pos 1) lesser_scales

-- the window of a box at its scale
abbrev pub window_of : Size → Box4 → Window
window_of canvas b = window_at b (scale_of canvas b)

-- a scale is at least 1, and at most the greatest coordinate
pub record IsScale (s : ℤ) : Type 0 where
  pub least : pos 1 ≤ℤ s
  pub greatest : s ≤ℤ greatest_coordinate

-- a window is no larger than a canvas may be, and its first column and its lowest line are coordinates of the field
pub record IsWindow (w : Window) : Type 0 where
  pub scale : IsScale w.scale
  pub columns : w.columns ≤ greatest_size.columns
  pub lines : w.lines ≤ picture_lines greatest_size
  pub least_column : least_coordinate ≤ℤ w.column
  pub greatest_column : w.column ≤ℤ last_in_field
  pub least_line : least_coordinate ≤ℤ w.line
  pub greatest_line : w.line ≤ℤ last_in_field
