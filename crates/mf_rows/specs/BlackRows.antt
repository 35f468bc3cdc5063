-- The rows of black pixels, which are those of positive weight.
use Rattle.std.specs.Prelude.{ℤ, pos, ◌-ℤ◌, int_lt, List, if◌then◌else◌}
use Rattle.std.specs.Int.RustNames.{unsigned_abs}
use Rattle.mf_geom.specs.Coordinates.{greatest_coordinate}
use Rattle.mf_rows_strips.specs.RowEdges.{weights_of}
use Rattle.mf_rows.specs.declared.black_rows.BlackRows.{BlackRows}
use Rattle.mf_rows.specs.declared.run.Run.{Run}
use Rattle.mf_rows.specs.Runs.{runs_of}
use Rattle.mf_rows.specs.Weights.{row_of}

-- 1 where f is positive, else 0
unfoldable pub black_weights : (ℤ → ℤ → ℤ) → ℤ → ℤ → ℤ
black_weights f x y = if int_lt (pos 0) (f x y) then pos 1 else pos 0

-- the maximal runs in row y of the pixels at which f is not 0, from column x on, which is not beyond the field
unfoldable pub row_runs : (ℤ → ℤ → ℤ) → ℤ → ℤ → List Run
row_runs f y x = runs_of (row_of f y x (unsigned_abs (greatest_coordinate -ℤ x)))

-- 1 at each black pixel of the picture, else 0
unfoldable pub black_in : BlackRows → ℤ → ℤ → ℤ
black_in r = black_weights (weights_of r.walk.edges)

-- the row that is being read
unfoldable pub row_in : BlackRows → ℤ
row_in r = r.walk.y

-- the runs of black pixels of that row which are still to come
unfoldable pub runs_in : BlackRows → List Run
runs_in r = row_runs (black_in r) r.walk.y r.walk.x
