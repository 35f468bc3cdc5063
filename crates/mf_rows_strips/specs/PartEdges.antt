-- Edges of a row that are still to come, in several lists.
use Rattle.std.specs.Prelude.{◌≡◌, ◌≢◌, ℤ, pos, ◌+ℤ◌, ◌-ℤ◌, ◌≤ℤ◌, ◌<ℤ◌, List, [], ◌∷◌, fold}
use Rattle.std.specs.Int.{int_min}
use Rattle.mf_geom.specs.Coordinates.{greatest_coordinate}
use Rattle.mf_rows_edges.specs.declared.edge.Edge.{Edge}
use Rattle.mf_rows_edges.specs.Edges.{IsEdge, weight_in}
use Rattle.mf_rows_strips.specs.declared.part_edges.PartEdges.{PartEdges}

-- the sum of the weights of all parts at column x, as the edges still to come make them
abbrev pub weight_in_all : List PartEdges → ℤ → ℤ
weight_in_all ps x = fold (λ w p. w +ℤ weight_in p.edges.now x) (pos 0) ps

-- the column of the first edge, the end of the field where there is none
abbrev pub column_of : List Edge → ℤ
column_of [] = greatest_coordinate
column_of (e ∷ es) = e.x

-- the column of the first edge of all parts, the end of the field where there is none
abbrev pub first_column_of : List PartEdges → ℤ
first_column_of ps = fold (λ x p. int_min x (column_of p.edges.now)) greatest_coordinate ps

-- g and h are the weights that the edges still to come make in their row, before and after the edges at column x were passed; there were
-- none to the left of x
pub record IsPassedTo (x : ℤ) (g h : ℤ → ℤ) : Type 0 where
  pub left : (z : ℤ) → z <ℤ x → g z ≡ pos 0
  pub right : (z : ℤ) → x ≤ℤ z → g z ≡ g x +ℤ h z
  pub passed : (z : ℤ) → z ≤ℤ x → h z ≡ pos 0

-- e is the first edge and f is the last one, where g are the weights that the edges make, whose sum is 0
pub record AreEnds (g : ℤ → ℤ) (e f : Edge) : Type 0 where
  pub first : IsEdge e
  pub last : IsEdge f
  pub left : (z : ℤ) → z <ℤ e.x → g z ≡ pos 0
  pub begins : g e.x ≡ e.weight
  pub ends : g (f.x -ℤ pos 1) ≡ pos 0 -ℤ f.weight
  pub right : (z : ℤ) → f.x ≤ℤ z → g z ≡ pos 0

-- an edge was passed, whose weight is 0 only at the end of the field
pub record IsNextEdge (g h : ℤ → ℤ) (e : Edge) : Type 0 where
  pub within : e.x ≤ℤ greatest_coordinate
  pub nonzero : e.x <ℤ greatest_coordinate → e.weight ≢ pos 0
  pub weight : e.weight ≡ g e.x
  pub edge : IsPassedTo e.x g h
