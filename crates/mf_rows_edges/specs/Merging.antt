-- What is left of the edges of two rows while their sum is made.
use Rattle.std.specs.Prelude.{◌≡◌, ℤ, pos, ◌+ℤ◌, ◌-ℤ◌, ◌≤ℤ◌, ◌<ℤ◌, All, List, [], ◌∷◌, if◌then◌else◌}
use Rattle.std.specs.Ordering.{int_eq}
use Rattle.mf_geom.specs.Coordinates.{least_coordinate, greatest_coordinate, IsCoordinate}
use Rattle.mf_rows_edges.specs.declared.edge.Edge.{Edge}
use Rattle.mf_rows_edges.specs.Edges.{AreEdgesFrom, weight_in}
use Rattle.mf_rows_edges.specs.LawfulWeights.{greatest_weight, least_weight, IsInReach}
use Rattle.mf_rows_edges.specs.Sums.{HaveWeights}

-- the greatest difference of two lawful weights
abbrev pub greatest_change : ℤ
greatest_change = greatest_weight -ℤ least_weight

-- the greatest difference of two such changes
abbrev pub greatest_difference : ℤ
greatest_difference = greatest_change +ℤ greatest_change

-- a number may be the difference of two lawful weights
abbrev pub IsChange : ℤ → Type 0
IsChange w = IsInReach greatest_change w

-- a number may be the difference of two such changes
abbrev pub IsDifference : ℤ → Type 0
IsDifference w = IsInReach greatest_difference w

-- the edges of changes of weights: sorted, with a sum of 0, and with differences of two lawful weights between them
pub record AreChanges (es : List Edge) : Type 0 where
  pub sorted : AreEdgesFrom least_coordinate es
  pub changes : (x : ℤ) → IsChange (weight_in es x)
  pub closed : weight_in es greatest_coordinate ≡ pos 0

-- edges that are still to be added: sorted, the first of them at or to the right of column low, each the difference of
-- two changes
pub record AreEdgesLeft (low : ℤ) (es : List Edge) : Type 0 where
  pub sorted : AreEdgesFrom low es
  pub differences : All (λ e. IsDifference e.weight) es

-- the first edge, if there is one, is at or to the right of column x
abbrev pub BeginFrom : ℤ → List Edge → Type 0
BeginFrom x [] = Unit {0}
BeginFrom x (e ∷ es) = x ≤ℤ e.x

-- the edge at column x has weight w, or there is none and w is 0; the others are to the right of it and still to be added
pub record IsSplitAt (es : List Edge) (x w : ℤ) (others : List Edge) : Type 0 where
  pub weights : HaveWeights (weight_in (record { x = x; weight = w } ∷ others)) es
  pub difference : IsDifference w
  pub rest : AreEdgesLeft (x +ℤ pos 1) others

-- sorted edges to the left of a column, where an edge may be
pub record AreEdgesBefore (x : ℤ) (es : List Edge) : Type 0 where
  pub sorted : AreEdgesFrom least_coordinate es
  pub before : All (λ e. e.x <ℤ x) es
  pub column : IsCoordinate x

-- an edge, unless its weight is 0
abbrev pub unless_zero : Edge → List Edge
unless_zero e = if int_eq e.weight (pos 0) then [] else (e ∷ [])
