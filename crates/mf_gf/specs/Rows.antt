-- Rows as they are spelled.
use Rattle.std.specs.Prelude.{ℕ, zero, suc, ℤ, pos, ◌-ℤ◌, List, [], ◌++◌, Option}
use Rattle.std.specs.Int.RustNames.{unsigned_abs}
use Rattle.mf_gf.specs.Spelling.{blank_after}

-- the number of rows from row y down to row b
abbrev pub rows_between : ℤ → ℤ → ℕ
rows_between y b = suc (unsigned_abs (y -ℤ b))

-- how many blank rows there are before the row that comes after n rows from row y down
unfoldable pub blank_after_rows : (ℤ → List ℕ) → ℤ → ℕ → Option ℕ → Option ℕ
blank_after_rows f y zero blank = blank
blank_after_rows f y (suc n) blank = blank_after_rows f (y -ℤ pos 1) n (blank_after blank (f y))

-- the same bytes n times
unfoldable pub repeated : ℕ → List ℕ → List ℕ
repeated zero bytes = []
repeated (suc n) bytes = bytes ++ repeated n bytes
