-- The run text of a picture: its maximal runs of pixels, rows in order from the top and columns from the left.
use Rattle.std.specs.Prelude.{ℕ, pos, ◌+ℤ◌, ◌-ℤ◌, List, [], ◌∷◌, ◌++◌, codes, flat_map}
use Rattle.std.specs.Fmt.{signed_decimal}
use Rattle.mf_rows.specs.declared.run.Run.{Run}
use Rattle.mf_rows.specs.Dots.{Dot}
use Rattle.mf_rows.specs.Runs.{runs_of}

-- the line of a run: its row, its first and last column, and its weight
abbrev pub run_line : Run → List ℕ
run_line r =
    signed_decimal r.y ++ codes " " ++ signed_decimal r.x ++ codes " " ++ signed_decimal ((r.x +ℤ pos r.len) -ℤ pos 1) ++ codes " "
    ++ signed_decimal r.weight ++ codes "\n"

-- the lines of runs, and the line `blank` where there are none
abbrev pub lines_of : List Run → List ℕ
lines_of [] = codes "blank\n"
lines_of (r ∷ rs) = flat_map run_line (r ∷ rs)

-- the run text of a picture
abbrev pub run_text : List Dot → List ℕ
run_text ds = lines_of (runs_of ds)
