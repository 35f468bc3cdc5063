-- The sum of two parts, which is made from the top down.
use Rattle.std.specs.Prelude.{◌≡◌, ℤ, ◌+ℤ◌, ◌≤ℤ◌, List, [], ◌∷◌, ◌++◌}
use Rattle.mf_rows_edges.specs.declared.edge.Edge.{Edge}
use Rattle.mf_rows_edges.specs.Edges.{weight_in}
use Rattle.mf_rows_edges.specs.LawfulWeights.{IsInReach}
use Rattle.mf_rows_edges.specs.Sums.{IsEdgeSum}
use Rattle.mf_rows_strips.specs.Strips.{EdgeStrip, last_row, weight_in_strips}

-- the weight of the pixel (x, y) in two lists of strips together
unfoldable pub sum_in_strips : List EdgeStrip → List EdgeStrip → ℤ → ℤ → ℤ
sum_in_strips ss ts x y = weight_in_strips ss x y +ℤ weight_in_strips ts x y

-- a strip with the sum of two rows was appended
pub record HasSumStrip (before : List EdgeStrip) (top : ℤ) (es fs : List Edge) (after : List EdgeStrip) : Type 0 where
  pub all : after ≡ before ++ record { top = top; edges = last_row after } ∷ []
  pub sum : IsEdgeSum es fs (last_row after)

-- the first of these strips, if there is one, begins at height y or below it: from the top down, row y is above all of them
abbrev pub IsFrom : List EdgeStrip → ℤ → Type 0
IsFrom [] y = Unit {0}
IsFrom (s ∷ ss) y = s.top ≤ℤ y

-- no weight of a row exceeds a number in absolute value
pub record IsWithin (most : ℤ) (es : List Edge) : Type 0 where
  pub within : (x : ℤ) → IsInReach most (weight_in es x)
