-- The sizes of canvases.
use Rattle.std.specs.Prelude.{◌≤◌, ◌-◌, ℕ, min}

-- a number of columns and of rows of characters
pub record Size : Type 0 where
  pub columns : ℕ
  pub rows : ℕ

-- the least size of a canvas, and the greatest (here as well as in the code, so that a wrong constant there is not proved)
abbrev pub least_size : Size
least_size = record { columns = 50; rows = 6 }

abbrev pub greatest_size : Size
greatest_size = record { columns = 1000; rows = 1000 }

-- this number of columns and of rows is enough for a canvas
pub record IsLargeEnough (columns rows : ℕ) : Type 0 where
  pub wide : least_size.columns ≤ columns
  pub high : least_size.rows ≤ rows

-- the size is that of a canvas
pub record IsSize (s : Size) : Type 0 where
  pub enough : IsLargeEnough s.columns s.rows
  pub columns : s.columns ≤ greatest_size.columns
  pub rows : s.rows ≤ greatest_size.rows

-- the size of the canvas for this number of columns and of rows of characters, but at most the greatest ones
abbrev pub size_in : ℕ → ℕ → Size
size_in columns rows = record { columns = min columns greatest_size.columns; rows = min rows greatest_size.rows }

-- the lines of a colored frame: all rows but that of the cursor
abbrev pub frame_lines : Size → ℕ
frame_lines canvas = canvas.rows - 1

-- the lines that a picture may fill: two more rows have the numbers below it
abbrev pub picture_lines : Size → ℕ
picture_lines canvas = canvas.rows - 3
