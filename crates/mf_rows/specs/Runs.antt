-- Runs: maximal sequences of pixels of one nonzero weight in one row.
use Rattle.std.specs.Prelude.{◌≡◌, ◌≢◌, ◌<◌, ◌≤◌, ℕ, zero, suc, ◌&&◌, Bool, ℤ, pos, ◌+ℤ◌, ◌-ℤ◌, List, [], ◌∷◌, Option, None, Some, if◌then◌else◌}
use Rattle.std.specs.Ordering.{int_eq}
use Rattle.mf_rows.specs.declared.run.Run.{Run}
use Rattle.mf_rows.specs.Dots.{Dot, weight_at}

-- n dots of weight w in row y, from column x to the right
unfoldable pub equal_dots : ℤ → ℤ → ℤ → ℕ → List Dot
equal_dots y x w zero = []
equal_dots y x w (suc n) = record { y = y; x = x; weight = w } ∷ equal_dots y (x +ℤ pos 1) w n

-- the dots of a run
unfoldable pub dots_of : Run → List Dot
dots_of r = equal_dots r.y r.x r.weight r.len

-- a dot continues a run to the left: it has the same row and weight, and is in the column before the run (what `IsFollowedBy` says
-- of a run of this dot alone and r, as a value, since runs are computed)
unfoldable pub continues : Dot → Run → Bool
continues d r = int_eq d.y r.y && (int_eq (d.x +ℤ pos 1) r.x && int_eq d.weight r.weight)

-- a run that begins at a dot, and continues for n more columns
unfoldable pub run_from : Dot → ℕ → Run
run_from d n = record { y = d.y; x = d.x; len = suc n; weight = d.weight }

-- the runs with a dot before them: it lengthens the first run where it continues that, and else is a run of its own
unfoldable pub with_dot : Dot → List Run → List Run
with_dot d [] = run_from d 0 ∷ []
with_dot d (r ∷ rs) = if continues d r then run_from d r.len ∷ rs else (run_from d 0 ∷ r ∷ rs)

-- the maximal runs of dots in reading order
unfoldable pub runs_of : List Dot → List Run
runs_of [] = []
runs_of (d ∷ ds) = with_dot d (runs_of ds)

-- the run that an iterator returned, and the runs after it: there are none where it returned none
abbrev pub with_next : Option Run → List Run → List Run
with_next None rs = []
with_next (Some r) rs = r ∷ rs

-- a run is followed by another that would continue it: same row, same weight, from the column after its last
pub record IsFollowedBy (r s : Run) : Type 0 where
  pub row : r.y ≡ s.y
  pub column : r.x +ℤ pos r.len ≡ s.x
  pub weight : r.weight ≡ s.weight

-- no run is followed by one that would continue it, so each is as long as it can be
abbrev pub AreMaximal : List Run → Type 0
AreMaximal [] = Unit {0}
AreMaximal (r ∷ []) = Unit {0}
AreMaximal (r ∷ s ∷ rs) = (IsFollowedBy r s → ⊥) × AreMaximal (s ∷ rs)

-- a run has at least one pixel, all its pixels have its weight, which is not 0, and neither neighbour in its row has
-- that weight
pub record IsMaximalRun (ds : List Dot) (r : Run) : Type 0 where
  pub some : 1 ≤ r.len
  pub nonzero : r.weight ≢ pos 0
  pub inside : (i : ℕ) → i < r.len → weight_at ds (r.x +ℤ pos i) r.y ≡ r.weight
  pub left : weight_at ds (r.x -ℤ pos 1) r.y ≢ r.weight
  pub right : weight_at ds (r.x +ℤ pos r.len) r.y ≢ r.weight
