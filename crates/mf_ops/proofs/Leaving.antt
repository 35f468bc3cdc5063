-- When a picture leaves the field as its columns and rows are stretched, as a shift and a scale do: its least box decides.
use Rattle.std.proofs.Common.{◌≡◌, ◌↔◌, ◌&&◌, Bool, true, false, not, ℕ, ◌+◌, ◌*◌, ◌≤◌, mul-le-mul_right, ℤ, pos}
use Rattle.std.proofs.Common.{negsuc, ◌+ℤ◌, ◌*ℤ◌, ◌≤ℤ◌, List, [], ◌∷◌, refl, subst, sym, w32, to_z, of_z, arith}
use Rattle.std.proofs.lemmas.Bool.{and_from, and_parts, or_parts, not-false, not_from_true, true_from_ne_false}
use Rattle.std.proofs.lemmas.Int.{ints}
use Rattle.std.proofs.lemmas.List.Elements.{All-nil, All-cons, All-contains}
use Rattle.std.proofs.lemmas.List.Folds.{list_any_none}
use Rattle.std.specs.List.{All, Any, list_any}
use Rattle.mf_geom.specs.Coordinates.{IsCoordinate, is_coordinate}
use Rattle.mf_geom.specs.Field.{IsColumnOrRow, IsInField}
use borrow.Author.Differences.{up, down}
use Rattle.mf_rows.proofs.BoundsInField.{least_box_of_field}
use Rattle.mf_rows.specs.Bounds.{IsLeastBox}
use Rattle.mf_rows.specs.declared.bounds.Box4.{Box4}
use Rattle.mf_rows_edges.specs.declared.stretch.Stretch.{Stretch}
use Rattle.mf_rows.specs.Dots.{Dot, IsPicture}
use Rattle.mf_rows_edges.specs.Axes.{StaysInside}
use Rattle.mf_rows.specs.Moves.{PixelsStayInside}
use Rattle.mf_rows_edges.proofs.Sources.{mul-le}
use Rattle.mf_ops.specs.Moves.{Factors, scale_by, shift_by, stays_inside}
use Rattle.mf_ops.proofs.Faults.{IsForWeights}
use Rattle.mf_ops.specs.declared.op.Op.TheVariants.{Shift, Scale}

is_coordinate-true : (x : ℤ) → (is_coordinate x ≡ true) ↔ IsCoordinate x
is_coordinate-true x = (λ passes. record { least = grind (arith, ints); greatest = grind (arith, ints) }, λ point. grind (arith, ints))

pub stays_inside-true : (s : Stretch) (p : ℤ) → (stays_inside s p ≡ true) ↔ StaysInside s p
stays_inside-true s p = grind (arith, ints, is_coordinate-true, and_parts, and_from)

-- whether a dot leaves the field where its column and its row are stretched
abbrev pub leaves_by : Stretch → Stretch → Dot → Bool
leaves_by columns rows d = not (stays_inside columns d.x && stays_inside rows d.y)

none_leaves : (columns rows : Stretch) (ds : List Dot) → PixelsStayInside columns rows ds → list_any (leaves_by columns rows) ds ≡ false
none_leaves columns rows ds inside = grind (arith, ints, list_any_none, not_from_true, and_from, stays_inside-true)

pub PixelsStayInside-none_leaves : (columns rows : Stretch) (ds : List Dot) → list_any (leaves_by columns rows) ds ≡ false → PixelsStayInside columns rows ds
PixelsStayInside-none_leaves columns rows [] none = grind (arith, ints, All-nil)
PixelsStayInside-none_leaves columns rows (d ∷ ds) none =
    let parts = or_parts (leaves_by columns rows d) (list_any (leaves_by columns rows) ds) none in
    let tests = and_parts _ _ (not-false _ parts.0) in
    let rest = PixelsStayInside-none_leaves columns rows ds parts.1 in
    record {
      across = All-cons (λ e. StaysInside columns e.x) d ds ((stays_inside-true columns d.x).0 tests.0) rest.across;
      up = All-cons (λ e. StaysInside rows e.y) d ds ((stays_inside-true rows d.y).0 tests.1) rest.up;
    }

pub some_leaves : (columns rows : Stretch) (ds : List Dot) → ¬ PixelsStayInside columns rows ds → list_any (leaves_by columns rows) ds ≡ true
some_leaves columns rows ds outside = true_from_ne_false _ (λ none. outside (PixelsStayInside-none_leaves columns rows ds none))

-- a shift stretches by factor 1, and a scale has offset 0
pub stays_in_field-shift : (ds : List Dot) (dx dy : ℤ) → PixelsStayInside (shift_by dx) (shift_by dy) ds → IsForWeights ds (Shift dx dy)
stays_in_field-shift ds dx dy inside = record { turns = record { none = refl }; stays = record { none_leaves = none_leaves _ _ ds inside } }

pub stays_in_field-scale : (ds : List Dot) (s : Factors) → PixelsStayInside (scale_by s.x) (scale_by s.y) ds → IsForWeights ds (Scale s)
stays_in_field-scale ds s inside = record { turns = record { none = refl }; stays = record { none_leaves = none_leaves _ _ ds inside } }

-- multiplying by a negative factor reverses the order
mul-ge : (n : ℕ) (a b : ℤ) → a ≤ℤ b → (b *ℤ negsuc n) ≤ℤ (a *ℤ negsuc n)
mul-ge n a b le =
    let parts : up a + down b ≤ up b + down a = omega (arith, ints) in
    let times : (up a + down b) * (n + 1) ≤ (up b + down a) * (n + 1) = mul-le-mul_right (n + 1) parts in
    omega (arith, ints)

-- so where two points stay in range, so do those between them
IsCoordinate-between : (f o a p b : ℤ) → a ≤ℤ p → p ≤ℤ b → IsCoordinate ((a *ℤ f) +ℤ o) → IsCoordinate ((b *ℤ f) +ℤ o) → IsCoordinate ((p *ℤ f) +ℤ o)
IsCoordinate-between (pos n) o a p b after before first last =
    omega (arith, ints, mul-le a p (pos n) (omega (arith, ints)) after, mul-le p b (pos n) (omega (arith, ints)) before, first.least, last.greatest)
IsCoordinate-between (negsuc n) o a p b after before first last =
    omega (arith, ints, mul-ge n a p after, mul-ge n p b before, last.least, first.greatest)

StaysInside-between : (s : Stretch) (a p b : ℤ) → a ≤ℤ p → p ≤ℤ b → StaysInside s a → StaysInside s b → StaysInside s p
StaysInside-between s a p b after before first last =
    record {
      start = IsCoordinate-between s.factor s.offset a p b after before first.start last.start;
      end = IsCoordinate-between s.factor s.offset (a +ℤ pos 1) (p +ℤ pos 1) (b +ℤ pos 1) (omega (arith, ints)) (omega (arith, ints)) first.end last.end;
    }

-- what holds for the column, or row, of each dot holds for a side of the least box
at_side : (P : ℤ → Type 0) (f : Dot → ℤ) (ds : List Dot) (side : ℤ) → All (λ d. P (f d)) ds → Any (λ d. f d ≡ side) ds → P side
at_side P f ds side all at = subst P at.4 (All-contains (λ d. P (f d)) ds at.1 all (at.0, at.2, at.3))

-- the sides of the least box stay inside
pub record SidesStayInside (columns rows : Stretch) (b : Box4) : Type 0 where
  pub left : StaysInside columns b.min_x
  pub right : StaysInside columns b.max_x
  pub bottom : StaysInside rows b.min_y
  pub top : StaysInside rows b.max_y

-- where they do, the picture stays inside
pub PixelsStayInside-from_sides : (columns rows : Stretch) (ds : List Dot) (b : Box4) → IsLeastBox ds b → SidesStayInside columns rows b
    → PixelsStayInside columns rows ds
PixelsStayInside-from_sides columns rows ds b box sides =
    record {
      across = λ k d lt. let within = box.within k d lt in StaysInside-between columns b.min_x _ b.max_x within.left within.right sides.left sides.right;
      up = λ k d lt. let within = box.within k d lt in StaysInside-between rows b.min_y _ b.max_y within.bottom within.top sides.bottom sides.top;
    }

pub sides_from_StayInside : (columns rows : Stretch) (ds : List Dot) (b : Box4) → IsLeastBox ds b → PixelsStayInside columns rows ds
    → SidesStayInside columns rows b
sides_from_StayInside columns rows ds b box inside =
    record {
      left = at_side (StaysInside columns) (λ d. d.x) ds b.min_x inside.across box.left;
      right = at_side (StaysInside columns) (λ d. d.x) ds b.max_x inside.across box.right;
      bottom = at_side (StaysInside rows) (λ d. d.y) ds b.min_y inside.up box.bottom;
      top = at_side (StaysInside rows) (λ d. d.y) ds b.max_y inside.up box.top;
    }

-- a pixel of the field has a column and a row of it
pub column_inside : (x y : ℤ) → IsInField x y → IsColumnOrRow x
column_inside x y field = record { least = field.left; greatest = field.right }

pub row_inside : (x y : ℤ) → IsInField x y → IsColumnOrRow y
row_inside x y field = record { least = field.bottom; greatest = field.top }

-- the sides of the least box of a picture are columns and rows of the field
pub record AreSidesInField (b : Box4) : Type 0 where
  pub left : IsColumnOrRow b.min_x
  pub right : IsColumnOrRow b.max_x
  pub bottom : IsColumnOrRow b.min_y
  pub top : IsColumnOrRow b.max_y

sides_in_field : (ds : List Dot) (b : Box4) → IsPicture ds → IsLeastBox ds b → AreSidesInField b
sides_in_field ds b picture box =
    let field = least_box_of_field ds b picture box in
    record {
      left = record { least = field.left; greatest = omega (arith, ints, field.columns, field.right) };
      right = record { least = omega (arith, ints, field.columns, field.left); greatest = field.right };
      bottom = record { least = field.bottom; greatest = omega (arith, ints, field.rows, field.top) };
      top = record { least = omega (arith, ints, field.rows, field.bottom); greatest = field.top };
    }

-- so the 32-bit integers of the code represent them exactly
abbrev pub read_back : Box4 → Box4
read_back b = record {
  min_x = to_z w32 (of_z w32 b.min_x);
  max_x = to_z w32 (of_z w32 b.max_x);
  min_y = to_z w32 (of_z w32 b.min_y);
  max_y = to_z w32 (of_z w32 b.max_y);
}

read_back-column : (p : ℤ) → IsColumnOrRow p → to_z w32 (of_z w32 p) ≡ p
read_back-column p within = omega (arith, ints, within.least, within.greatest)

pub IsLeastBox-read_back : (ds : List Dot) (b : Box4) → IsPicture ds → IsLeastBox ds b → IsLeastBox ds (read_back b)
IsLeastBox-read_back ds b picture box =
    let sides = sides_in_field ds b picture box in
    let same : read_back b ≡ b = grind (arith, ints, read_back-column) in
    subst (IsLeastBox ds) (sym same) box

pub sides_read_back : (ds : List Dot) (b : Box4) → IsPicture ds → IsLeastBox ds b → AreSidesInField (read_back b)
sides_read_back ds b picture box = sides_in_field ds (read_back b) picture (IsLeastBox-read_back ds b picture box)
