-- Dots and runs in reading order, and which runs may be pushed after the dots that are there.
use Rattle.std.specs.Prelude.{◌≢◌, ◌≤◌, ℤ, pos, ◌+ℤ◌, ◌<ℤ◌, ◌≤ℤ◌, All, List, [], ◌∷◌}
use Rattle.mf_geom.specs.Coordinates.{least_coordinate, greatest_coordinate, last_in_field}
use Rattle.mf_rows.specs.declared.run.Run.{Run}
use Rattle.mf_rows_edges.specs.LawfulWeights.{IsLawfulWeight}
use Rattle.mf_rows.specs.Dots.{Dot, place, start_of_field}

-- a run has at least one pixel, lies in the field, and has a lawful weight that is not 0
pub record IsRun (r : Run) : Type 0 where
  pub some : 1 ≤ r.len
  pub left : least_coordinate ≤ℤ r.x
  pub right : (r.x +ℤ pos r.len) ≤ℤ greatest_coordinate
  pub bottom : least_coordinate ≤ℤ r.y
  pub top : r.y ≤ℤ last_in_field
  pub lawful : IsLawfulWeight r.weight
  pub nonzero : r.weight ≢ pos 0

-- runs from a place on, none of which begins before the one before it ends
abbrev pub AreRunsFrom : ℤ → List Run → Type 0
AreRunsFrom low [] = Unit {0}
AreRunsFrom low (r ∷ rs) = IsRun r × (low ≤ℤ place r.x r.y) × AreRunsFrom (place (r.x +ℤ pos r.len) r.y) rs

-- runs in reading order
pub record AreRuns (rs : List Run) : Type 0 where
  pub runs : AreRunsFrom start_of_field rs

-- each dot comes before a place
abbrev pub AreBefore : ℤ → List Dot → Type 0
AreBefore p ds = All (λ d. place d.x d.y <ℤ p) ds

-- a lawful run fits after dots where each of them comes before it
pub record Fits (ds : List Dot) (r : Run) : Type 0 where
  pub run : IsRun r
  pub before : AreBefore (place r.x r.y) ds
