-- The range of the coordinates of points, and the first and last columns and rows of the field (mf.web: the limits on edge structures).
use Rattle.std.specs.Prelude.{ℕ, ◌*◌, Bool, ◌&&◌, ℤ, pos, neg_ℤ, ◌-ℤ◌, ◌≤ℤ◌, int_le}
use Rattle.std.specs.Int.RustNames.{unsigned_abs}

-- the greatest coordinate of a point; a number of its own, with which the constant of the code is compared by the proofs
abbrev pub greatest_coordinate : ℤ
greatest_coordinate = pos 4095

-- the least coordinate of a point, and the first column and the lowest row of the field
abbrev pub least_coordinate : ℤ
least_coordinate = neg_ℤ greatest_coordinate

-- the last column and the highest row of the field, whose pixels end at the greatest coordinate
abbrev pub last_in_field : ℤ
last_in_field = greatest_coordinate -ℤ pos 1

-- the number of columns, and of rows, of the field
abbrev pub field_size : ℕ
field_size = 2 * unsigned_abs greatest_coordinate

-- the greatest length of a segment, from the least coordinate to the greatest
abbrev pub greatest_length : ℤ
greatest_length = pos field_size

-- a point may have this coordinate: a record, since proofs cite each bound by itself
pub record IsCoordinate (a : ℤ) : Type 0 where
  pub least : least_coordinate ≤ℤ a
  pub greatest : a ≤ℤ greatest_coordinate

-- whether a point may have this coordinate: the same as a value, for the definitions that compute a fault
abbrev pub is_coordinate : ℤ → Bool
is_coordinate a = int_le least_coordinate a && int_le a greatest_coordinate
