-- The weights of two rows together.
use Rattle.std.specs.Prelude.{◌≡◌, ℤ, ◌+ℤ◌, List, ◌++◌}
use Rattle.mf_rows_edges.specs.declared.edge.Edge.{Edge}
use Rattle.mf_rows_edges.specs.LawfulWeights.{IsLawfulWeight}
use Rattle.mf_geom.specs.Coordinates.{least_coordinate}
use Rattle.mf_rows_edges.specs.Edges.{AreEdgesFrom, weight_in}

-- the weight at column x of two rows together
unfoldable pub weight_in_both : List Edge → List Edge → ℤ → ℤ
weight_in_both es fs x = weight_in es x +ℤ weight_in fs x

-- f is not a lawful weight at some column
pub record IsUnlawfulColumn (f : ℤ → ℤ) : Type 0 where
  pub x : ℤ
  pub unlawful : IsLawfulWeight (f x) → ⊥

-- these edges have the weight f x at each column x
pub record HaveWeights (f : ℤ → ℤ) (es : List Edge) : Type 0 where
  pub weights : (x : ℤ) → weight_in es x ≡ f x

-- the edges of the sum of two rows: sorted, with the weights of both together between them
pub record IsEdgeSum (es fs sum : List Edge) : Type 0 where
  pub sorted : AreEdgesFrom least_coordinate sum
  pub weights : HaveWeights (weight_in_both es fs) sum

-- the edges of the sum of two rows were appended to a list
pub record HasEdgeSum (before es fs after : List Edge) : Type 0 where
  pub more : List Edge
  pub all : after ≡ before ++ more
  pub sum : IsEdgeSum es fs more

-- some edges, or none, were appended to a list
pub record HasMoreEdges (before after : List Edge) : Type 0 where
  pub more : List Edge
  pub all : after ≡ before ++ more
