-- Cells of a picture, and their shades. The cell (i, j) at scale s is the square of the pixels whose columns are s * i to
-- s * i + s - 1, and whose rows are s * j to s * j + s - 1.
use Rattle.std.specs.Prelude.{◌≡◌, ◌<◌, ◌≤◌, ℕ, ◌+◌, ◌*◌, ◌&&◌, Bool, ℤ, pos, ◌+ℤ◌, ◌-ℤ◌, ◌*ℤ◌, ◌≤ℤ◌, ◌<ℤ◌, int_lt, nat_lt, List}
use Rattle.std.specs.Prelude.{[], ◌∷◌, length, get_or, if◌then◌else◌}
use Rattle.std.specs.Int.{int_div_euclid}
use Rattle.std.specs.Int.RustNames.{unsigned_abs}
use Rattle.std.specs.List.{All}
use Rattle.std.specs.Ordering.{int_eq}
use Rattle.mf_rows.specs.declared.run.Run.{Run}
use Rattle.mf_rows.specs.Dots.{Dot, weight_at}
use Rattle.mf_rows.specs.Order.{IsRun}
use Rattle.mf_rows.specs.Runs.{dots_of}
use Rattle.mf_view_frame.specs.declared.shade.Shade.{Shade}
use Rattle.mf_view_frame.specs.declared.window.Window.{Window}
use Rattle.mf_view_frame.specs.declared.shade.Shade.TheVariants.{Blank, Negative, One, Two, More}

-- which column of cells the pixel column p lies in at scale s; in the same way, which row of cells the pixel row p lies in
unfoldable pub cell_of : ℤ → ℤ → ℤ
cell_of s p = int_div_euclid p s

-- the shade of a weight
abbrev pub shade_of : ℤ → Shade
shade_of w =
    if int_eq w (pos 0) then Blank
    else (if int_lt w (pos 0) then Negative
    else (if int_eq w (pos 1) then One
    else (if int_eq w (pos 2) then Two else More)))

-- how dark a shade is
abbrev pub depth : Shade → ℕ
depth Blank = 0
depth Negative = 1
depth One = 2
depth Two = 3
depth More = 4

-- whether a shade is dark, which those of positive weights are
abbrev pub is_dark : Shade → Bool
is_dark a = nat_lt (depth Negative) (depth a)

-- the darker one of two shades
abbrev pub darker : Shade → Shade → Shade
darker a b = if nat_lt (depth a) (depth b) then b else a

-- the darkest shade of the pixels of the cell (i, j) at scale s
unfoldable pub cell_shade : ℤ → List Dot → ℤ → ℤ → Shade
cell_shade s [] i j = Blank
cell_shade s (d ∷ ds) i j =
    if int_eq (cell_of s d.x) i && int_eq (cell_of s d.y) j then darker (shade_of d.weight) (cell_shade s ds i j) else cell_shade s ds i j

-- where the cell (i, j) of a window is in the list of its cells, row by row from the lowest
abbrev pub place_in : Window → ℤ → ℤ → ℕ
place_in w i j = unsigned_abs (j -ℤ (pos 2 *ℤ w.line)) * w.columns + unsigned_abs (i -ℤ w.column)

-- the shade of the cell (i, j) of a window whose cells have these shades
unfoldable pub shade_in : Window → List Shade → ℤ → ℤ → Shade
shade_in w shades i j = get_or shades (place_in w i j) Blank

-- the cell (i, j) is in a window
pub record IsCellOf (w : Window) (i j : ℤ) : Type 0 where
  pub left : w.column ≤ℤ i
  pub right : i <ℤ (w.column +ℤ pos w.columns)
  pub bottom : (pos 2 *ℤ w.line) ≤ℤ j
  pub top : j <ℤ ((pos 2 *ℤ w.line) +ℤ pos (2 * w.lines))

-- the shades are those of the cells of a window
pub record AreCells (w : Window) (ds : List Dot) (shades : List Shade) : Type 0 where
  pub count : length shades ≡ 2 * w.lines * w.columns
  pub cells : (i j : ℤ) → IsCellOf w i j → shade_in w shades i j ≡ cell_shade w.scale ds i j

-- the places from start to end - 1, and a shade for them
pub record Darkening : Type 0 where
  pub start : ℕ
  pub end : ℕ
  pub shade : Shade

-- the shades are as before, but at these places each is the darker one of what it was and the shade for them
pub record AreDarkened (d : Darkening) (old new : List Shade) : Type 0 where
  pub count : length new ≡ length old
  pub inside : (k : ℕ) → d.start ≤ k → k < d.end → get_or new k Blank ≡ darker (get_or old k Blank) d.shade
  pub before : (k : ℕ) → k < d.start → get_or new k Blank ≡ get_or old k Blank
  pub after : (k : ℕ) → d.end ≤ k → get_or new k Blank ≡ get_or old k Blank

-- each cell of a window has the darker one of the shade that it had and the one that this run alone gives to it
pub record ArePainted (w : Window) (r : Run) (old new : List Shade) : Type 0 where
  pub count : length new ≡ length old
  pub cells : (i j : ℤ) → IsCellOf w i j → shade_in w new i j ≡ darker (shade_in w old i j) (cell_shade w.scale (dots_of r) i j)

-- a run lies in a window
pub record IsRunInWindow (w : Window) (r : Run) : Type 0 where
  pub run : IsRun r
  pub first : IsCellOf w (cell_of w.scale r.x) (cell_of w.scale r.y)
  pub last : IsCellOf w (cell_of w.scale ((r.x +ℤ pos r.len) -ℤ pos 1)) (cell_of w.scale r.y)

-- the cells of all dots lie in a window
abbrev pub AreInWindow : Window → List Dot → Type 0
AreInWindow w ds = All (λ d. IsCellOf w (cell_of w.scale d.x) (cell_of w.scale d.y)) ds

-- a pixel of the cell (i, j) at scale s has positive weight
pub record HasPositivePixel (s : ℤ) (ds : List Dot) (i j : ℤ) : Type 0 where
  pub x : ℤ
  pub y : ℤ
  pub column : cell_of s x ≡ i
  pub row : cell_of s y ≡ j
  pub positive : pos 0 <ℤ weight_at ds x y
