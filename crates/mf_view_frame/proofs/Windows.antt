-- Windows of boxes, and their scales.
use Rattle.std.proofs.Common.{◌≡◌, ◌≤◌, ℕ, zero, suc, ◌-◌, true, false, ℤ, pos, ◌+ℤ◌, ◌-ℤ◌, ◌≤ℤ◌, ◌<ℤ◌, refl, to_z, of_z, w32, arith}
use Rattle.std.specs.Int.RustNames.{unsigned_abs}
use Rattle.std.proofs.lemmas.Bool.{cond-true, cond-false, cond_both, and_parts, and_from, leb-true, le-leb}
use Rattle.std.proofs.lemmas.Int.{ints, by_lt_z}
use Rattle.mf_geom.specs.Coordinates.{least_coordinate, greatest_coordinate, last_in_field}
use Rattle.mf_geom.specs.Field.{IsColumnOrRow}
use Rattle.mf_rows.specs.declared.bounds.Box4.{Box4}
use Rattle.mf_rows.specs.declared.run.Run.{Run}
use Rattle.mf_rows.specs.Order.{IsRun}
use Rattle.mf_rows.specs.Boxes.{IsBoxOfField, extent}
use Rattle.mf_view_frame.specs.declared.window.Window.{Window}
use Rattle.mf_view_frame.specs.Canvases.{Size, IsSize, picture_lines}
use Rattle.mf_view_frame.specs.Cells.{cell_of}
use Rattle.mf_view_frame.specs.Windows.{lesser_scales, line_of, window_at, fits_on, first_fitting, scale_of, IsScale, IsWindow}
use Rattle.mf_view_frame.proofs.Floors.{cell-le, cell_in_field, cell_at_greatest, line-within, line-le}

-- the columns, rows and lines of the cells of a box of the field: their numbers are those of columns and rows of the field
pub record IsWindowOfField (b : Box4) (s : ℤ) : Type 0 where
  pub first_column : IsColumnOrRow (cell_of s b.min_x)
  pub last_column : IsColumnOrRow (cell_of s b.max_x)
  pub columns : cell_of s b.min_x ≤ℤ cell_of s b.max_x
  pub first_row : IsColumnOrRow (cell_of s b.min_y)
  pub last_row : IsColumnOrRow (cell_of s b.max_y)
  pub first_line : IsColumnOrRow (line_of (cell_of s b.min_y))
  pub last_line : IsColumnOrRow (line_of (cell_of s b.max_y))
  pub lines : line_of (cell_of s b.min_y) ≤ℤ line_of (cell_of s b.max_y)

pub window_of_field : (b : Box4) (s : ℤ) → IsBoxOfField b → pos 1 ≤ℤ s → IsWindowOfField b s
window_of_field b s box positive =
    let first_row = cell_in_field s b.min_y positive box.bottom (omega (arith, ints, box.rows, box.top)) in
    let last_row = cell_in_field s b.max_y positive (omega (arith, ints, box.rows, box.bottom)) box.top in
    record {
      first_column = cell_in_field s b.min_x positive box.left (omega (arith, ints, box.columns, box.right));
      last_column = cell_in_field s b.max_x positive (omega (arith, ints, box.columns, box.left)) box.right;
      columns = cell-le s b.min_x b.max_x positive box.columns;
      first_row = first_row;
      last_row = last_row;
      first_line = omega (arith, ints, line-within (cell_of s b.min_y), first_row);
      last_line = omega (arith, ints, line-within (cell_of s b.max_y), last_row);
      lines = line-le (cell_of s b.min_y) (cell_of s b.max_y) (cell-le s b.min_y b.max_y positive box.rows);
    }

-- the first and the last column and line that the code computes of a window
pub record WindowEnds : Type 0 where
  pub column : ℤ
  pub last_column : ℤ
  pub line : ℤ
  pub last_line : ℤ

-- they are those of the window of a box
pub record AreWindowEnds (b : Box4) (s : ℤ) (ends : WindowEnds) : Type 0 where
  pub field : IsWindowOfField b s
  pub left : ends.column ≡ cell_of s b.min_x
  pub right : ends.last_column ≡ cell_of s b.max_x
  pub bottom : ends.line ≡ line_of (cell_of s b.min_y)
  pub top : ends.last_line ≡ line_of (cell_of s b.max_y)

-- a number of the field, or a scale, stays itself as a value of 32 bits
pub stays : (p : ℤ) → least_coordinate ≤ℤ p → p ≤ℤ greatest_coordinate → to_z w32 (of_z w32 p) ≡ p
stays p least greatest = omega (arith, ints)

pub cell_value : (s p r : ℤ) → IsScale s → least_coordinate ≤ℤ p → p ≤ℤ last_in_field
    → r ≡ cell_of (to_z w32 (of_z w32 s)) (to_z w32 (of_z w32 p)) → r ≡ cell_of s p
cell_value s p r scale least greatest computed = grind (arith, ints, stays)

line_value : (j c l : ℤ) → IsColumnOrRow j → c ≡ j → l ≡ line_of (to_z w32 (of_z w32 c)) → l ≡ line_of j
line_value j c l field same computed = grind (arith, ints, stays)

pub window_ends : {b : Box4} {s left right low high bottom top : ℤ} → IsBoxOfField b → IsScale s
    → left ≡ cell_of (to_z w32 (of_z w32 s)) (to_z w32 (of_z w32 b.min_x)) → right ≡ cell_of (to_z w32 (of_z w32 s)) (to_z w32 (of_z w32 b.max_x))
    → low ≡ cell_of (to_z w32 (of_z w32 s)) (to_z w32 (of_z w32 b.min_y)) → high ≡ cell_of (to_z w32 (of_z w32 s)) (to_z w32 (of_z w32 b.max_y))
    → bottom ≡ line_of (to_z w32 (of_z w32 low)) → top ≡ line_of (to_z w32 (of_z w32 high))
    → AreWindowEnds b s (record { column = left; last_column = right; line = bottom; last_line = top })
window_ends {b} {s} {left} {right} {low} {high} {bottom} {top} box scale at_left at_right at_low at_high at_bottom at_top =
    let field = window_of_field b s box scale.least in
    let first_row = cell_value s b.min_y low scale box.bottom (omega (arith, ints, box.rows, box.top)) at_low in
    let last_row = cell_value s b.max_y high scale (omega (arith, ints, box.rows, box.bottom)) box.top at_high in
    record {
      field = field;
      left = cell_value s b.min_x left scale box.left (omega (arith, ints, box.columns, box.right)) at_left;
      right = cell_value s b.max_x right scale (omega (arith, ints, box.columns, box.left)) box.right at_right;
      bottom = line_value (cell_of s b.min_y) low bottom field.first_row first_row at_bottom;
      top = line_value (cell_of s b.max_y) high top field.last_row last_row at_top;
    }

pub same_window : {b : Box4} {s : ℤ} {ends : WindowEnds} {columns lines : ℕ} → IsScale s → AreWindowEnds b s ends
    → columns ≡ extent (to_z w32 (of_z w32 ends.column)) (to_z w32 (of_z w32 ends.last_column))
    → lines ≡ extent (to_z w32 (of_z w32 ends.line)) (to_z w32 (of_z w32 ends.last_line))
    → (record {
      scale = to_z w32 (of_z w32 s);
      column = to_z w32 (of_z w32 ends.column);
      columns = columns;
      line = to_z w32 (of_z w32 ends.line);
      lines = lines;
    }) ≡ window_at b s
unfolding window_at
same_window {b} {s} {ends} {columns} {lines} scale v wide high =
    let factor = stays s (omega (arith, ints, scale.least)) scale.greatest in
    let left : to_z w32 (of_z w32 ends.column) ≡ cell_of s b.min_x = omega (arith, ints, v.left, v.field.first_column.least, v.field.first_column.greatest) in
    let right : to_z w32 (of_z w32 ends.last_column) ≡ cell_of s b.max_x =
    omega (arith, ints, v.right, v.field.last_column.least, v.field.last_column.greatest) in
    let bottom : to_z w32 (of_z w32 ends.line) ≡ line_of (cell_of s b.min_y) =
    omega (arith, ints, v.bottom, v.field.first_line.least, v.field.first_line.greatest) in
    let top : to_z w32 (of_z w32 ends.last_line) ≡ line_of (cell_of s b.max_y) =
    omega (arith, ints, v.top, v.field.last_line.least, v.field.last_line.greatest) in
    grind (arith, ints)

-- ---- the scale

-- a window fits exactly where it has few enough columns and lines
pub record IsFitting (canvas : Size) (w : Window) : Type 0 where
  pub columns : w.columns ≤ canvas.columns
  pub lines : w.lines ≤ picture_lines canvas

pub fitting_parts : (canvas : Size) (w : Window) → fits_on canvas w ≡ true → IsFitting canvas w
fitting_parts canvas w test = grind (arith, ints, and_parts, leb-true)

-- at the greatest scale each window fits
fits_at_greatest : (canvas : Size) (b : Box4) → IsSize canvas → IsBoxOfField b → fits_on canvas (window_at b greatest_coordinate) ≡ true
unfolding window_at
fits_at_greatest canvas b size box =
    let left = cell_at_greatest b.min_x box.left (omega (arith, ints, box.columns, box.right)) in
    let right = cell_at_greatest b.max_x (omega (arith, ints, box.columns, box.left)) box.right in
    let low = cell_at_greatest b.min_y box.bottom (omega (arith, ints, box.rows, box.top)) in
    let high = cell_at_greatest b.max_y (omega (arith, ints, box.rows, box.bottom)) box.top in
    let bottom = line-within (cell_of greatest_coordinate b.min_y) in
    let top = line-within (cell_of greatest_coordinate b.max_y) in
    let fitting : IsFitting canvas (window_at b greatest_coordinate) =
    omega (arith, ints, left.0, right.1, size.enough, low.0, high.1, bottom.1, top.0) in
    and_from _ _ (le-leb _ _ fitting.columns) (le-leb _ _ fitting.lines)

pub first-found : (canvas : Size) (b : Box4) (s : ℤ) (n : ℕ) → fits_on canvas (window_at b s) ≡ true → first_fitting canvas b s (suc n) ≡ s
unfolding first_fitting
first-found canvas b s n fits = cond-true _ s (first_fitting canvas b (s +ℤ pos 1) n) fits

pub first-next : (canvas : Size) (b : Box4) (s : ℤ) (n : ℕ) → fits_on canvas (window_at b s) ≡ false
    → first_fitting canvas b s (suc n) ≡ first_fitting canvas b (s +ℤ pos 1) n
unfolding first_fitting
first-next canvas b s n fails = cond-false _ s (first_fitting canvas b (s +ℤ pos 1) n) fails

first-fits : (canvas : Size) (b : Box4) (s : ℤ) (n : ℕ) → IsSize canvas → IsBoxOfField b → s +ℤ pos n ≡ greatest_coordinate
    → fits_on canvas (window_at b (first_fitting canvas b s n)) ≡ true
unfolding first_fitting
first-fits canvas b s zero size box last = grind (arith, ints, fits_at_greatest canvas b size box)
first-fits canvas b s (suc n) size box last = grind (arith, ints, cond_both, first-fits canvas b (s +ℤ pos 1) n size box (omega (arith, ints)))

first-within : (canvas : Size) (b : Box4) (s : ℤ) (n : ℕ) → (s ≤ℤ first_fitting canvas b s n) × (first_fitting canvas b s n ≤ℤ (s +ℤ pos n))
unfolding first_fitting
first-within canvas b s zero = (omega (arith, ints), omega (arith, ints))
first-within canvas b s (suc n) = grind (arith, ints, cond_both, first-within canvas b (s +ℤ pos 1) n)

first-least : (canvas : Size) (b : Box4) (s : ℤ) (n : ℕ) (t : ℤ) → s ≤ℤ t → t <ℤ first_fitting canvas b s n → fits_on canvas (window_at b t) ≡ false
unfolding first_fitting
first-least canvas b s zero t from to = absurd (omega (arith, ints))
first-least canvas b s (suc n) t from to =
    cond_both (fits_on canvas (window_at b s)) s (first_fitting canvas b (s +ℤ pos 1) n) (λ first. t <ℤ first → fits_on canvas (window_at b t) ≡ false)
    (λ _ before. absurd (omega (arith, ints, before)))
    (λ no before. by_lt_z s t
    (λ after. first-least canvas b (s +ℤ pos 1) n t (omega (arith, ints)) before)
    (λ here. let same : t ≡ s = omega (arith, ints) in rw same no)) to

pub scale_fits : (canvas : Size) (b : Box4) → IsSize canvas → IsBoxOfField b → fits_on canvas (window_at b (scale_of canvas b)) ≡ true
unfolding scale_of
scale_fits canvas b size box = first-fits canvas b (pos 1) lesser_scales size box (omega (arith, ints))

pub no_lesser_scale : (canvas : Size) (b : Box4) (s : ℤ) → pos 1 ≤ℤ s → s <ℤ scale_of canvas b → fits_on canvas (window_at b s) ≡ false
unfolding scale_of
no_lesser_scale canvas b s = first-least canvas b (pos 1) lesser_scales s

pub is_scale : (canvas : Size) (b : Box4) → IsScale (scale_of canvas b)
unfolding scale_of
is_scale canvas b = let (from, to) = first-within canvas b (pos 1) lesser_scales in record { least = from; greatest = omega (arith, ints, to) }

-- the window of a box at its scale
pub lawful_window : (canvas : Size) (b : Box4) → IsSize canvas → IsBoxOfField b → IsWindow (window_at b (scale_of canvas b))
unfolding window_at
lawful_window canvas b size box =
    let scale = is_scale canvas b in
    let field = window_of_field b (scale_of canvas b) box scale.least in
    grind (arith, ints, fitting_parts canvas (window_at b (scale_of canvas b)) (scale_fits canvas b size box), scale_fits)

-- the scales before this one are those at which the window does not fit
pub record IsScaleFrom (canvas : Size) (b : Box4) (s : ℤ) : Type 0 where
  pub least : pos 1 ≤ℤ s
  pub greatest : s ≤ℤ greatest_coordinate
  pub first : first_fitting canvas b s (unsigned_abs (greatest_coordinate -ℤ s)) ≡ scale_of canvas b

pub scale_none : (canvas : Size) (b : Box4) → IsScaleFrom canvas b (pos 1)
unfolding scale_of
scale_none canvas b = record { least = omega (arith, ints); greatest = omega (arith, ints); first = refl }

pub more_scales : (s : ℤ) → s <ℤ greatest_coordinate → unsigned_abs (greatest_coordinate -ℤ s) ≡ suc (unsigned_abs (greatest_coordinate -ℤ (s +ℤ pos 1)))
more_scales s more = omega (arith, ints)

pub scale_more : (canvas : Size) (b : Box4) (s : ℤ) → s <ℤ greatest_coordinate → fits_on canvas (window_at b s) ≡ false → IsScaleFrom canvas b s
    → IsScaleFrom canvas b (s +ℤ pos 1)
scale_more canvas b s more fails so_far = grind (arith, ints, first-next, more_scales)

pub scale_last : (canvas : Size) (b : Box4) (s : ℤ) → s ≡ greatest_coordinate → IsScaleFrom canvas b s → greatest_coordinate ≡ scale_of canvas b
unfolding first_fitting
scale_last canvas b s last so_far = rw last at so_far.first

pub few_lines : (canvas : Size) (b : Box4) → IsSize canvas → IsBoxOfField b → (window_at b (scale_of canvas b)).lines ≤ picture_lines canvas
few_lines canvas b size box = (fitting_parts canvas (window_at b (scale_of canvas b)) (scale_fits canvas b size box)).lines

-- the cell that the code finds
found_cell : (s p r : ℤ) → IsScale s → least_coordinate ≤ℤ p → p ≤ℤ last_in_field → r ≡ cell_of (to_z w32 (of_z w32 s)) (to_z w32 (of_z w32 p))
    → to_z w32 (of_z w32 r) ≡ cell_of s p
found_cell s p r scale least greatest computed = grind (arith, ints, cell_value, cell_in_field, stays)

-- the cells that the code finds of the row of a run, and of its first and last column
pub record FoundCells : Type 0 where
  pub row : ℤ
  pub first : ℤ
  pub last : ℤ

pub record AreFoundCells (s : ℤ) (run : Run) (found : FoundCells) : Type 0 where
  pub row_is : to_z w32 (of_z w32 found.row) ≡ cell_of s run.y
  pub first_is : to_z w32 (of_z w32 found.first) ≡ cell_of s run.x
  pub last_is : to_z w32 (of_z w32 found.last) ≡ cell_of s ((run.x +ℤ pos run.len) -ℤ pos 1)

pub found_cells : {s : ℤ} {run : Run} {row first last : ℤ} → IsScale s → IsRun run
    → row ≡ cell_of (to_z w32 (of_z w32 s)) (to_z w32 (of_z w32 run.y)) → first ≡ cell_of (to_z w32 (of_z w32 s)) (to_z w32 (of_z w32 run.x))
    → last ≡ cell_of (to_z w32 (of_z w32 s)) (to_z w32 (of_z w32 (to_z w32 (of_z w32 run.x) +ℤ to_z w32 (run.len - 1))))
    → AreFoundCells s run (record { row = row; first = first; last = last })
found_cells {s} {run} {row} {first} {last} scale r row_computed first_computed last_computed =
    let end : to_z w32 (of_z w32 run.x) +ℤ to_z w32 (run.len - 1) ≡ (run.x +ℤ pos run.len) -ℤ pos 1 = omega (arith, ints, r.some, r.left, r.right) in
    record {
      row_is = found_cell s run.y row scale r.bottom r.top row_computed;
      first_is = found_cell s run.x first scale r.left (omega (arith, ints, r.some, r.right)) first_computed;
      last_is = found_cell s ((run.x +ℤ pos run.len) -ℤ pos 1) last scale (omega (arith, ints, r.some, r.left))
          (omega (arith, ints, r.right)) (rw end at last_computed);
    }
