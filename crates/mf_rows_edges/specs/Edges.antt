-- The edges of a row (mf.web, "edge structures"): an edge changes the weights of its row from its column on, so the
-- weight of a pixel is the sum of the weights of the edges at or to the left of it.
use Rattle.std.specs.Prelude.{◌≡◌, ◌≢◌, ℤ, pos, ◌+ℤ◌, ◌≤ℤ◌, int_le, List, [], ◌∷◌, if◌then◌else◌}
use Rattle.mf_geom.specs.Coordinates.{least_coordinate, greatest_coordinate, IsCoordinate}
use Rattle.mf_rows_edges.specs.declared.edge.Edge.{Edge}
use Rattle.mf_rows_edges.specs.LawfulWeights.{IsLawfulWeight}

-- the weight at column x in a row with these edges: the sum of the edges at or to the left of it
unfoldable pub weight_in : List Edge → ℤ → ℤ
weight_in [] x = pos 0
weight_in (e ∷ es) x = (if int_le e.x x then e.weight else pos 0) +ℤ weight_in es x

-- an edge is at a column of the field or at the one after its last, and its weight is not 0
pub record IsEdge (e : Edge) : Type 0 where
  pub column : IsCoordinate e.x
  pub nonzero : e.weight ≢ pos 0

-- lawful edges sorted by column, at most one a column, the first of them at or to the right of column low
abbrev pub AreEdgesFrom : ℤ → List Edge → Type 0
AreEdgesFrom low [] = Unit {0}
AreEdgesFrom low (e ∷ es) = IsEdge e × (low ≤ℤ e.x) × AreEdgesFrom (e.x +ℤ pos 1) es

-- the edges of a row: sorted, with lawful weights between them, and with a sum of 0
pub record AreEdges (es : List Edge) : Type 0 where
  pub sorted : AreEdgesFrom least_coordinate es
  pub lawful : (x : ℤ) → IsLawfulWeight (weight_in es x)
  pub closed : weight_in es greatest_coordinate ≡ pos 0
