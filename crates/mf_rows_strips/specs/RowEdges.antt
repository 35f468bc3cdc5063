-- The weights that the edges of a row of a pile make.
use Rattle.std.specs.Prelude.{◌≡◌, ℤ, ◌≤ℤ◌, take}
use Rattle.std.specs.Vec.{vec_len}
use Rattle.mf_geom.specs.Coordinates.{least_coordinate}
use Rattle.mf_rows_strips.specs.declared.row_edges.RowEdges.{RowEdges}
use Rattle.mf_rows_strips.specs.PileWeights.{weight_in_pile}
use Rattle.mf_rows_strips.specs.PartEdges.{weight_in_all}

-- the weights of their pile
unfoldable pub weights_of : RowEdges → ℤ → ℤ → ℤ
weights_of r = weight_in_pile r.pile.now

-- the weights in their row that the edges make that are still to come
unfoldable pub weight_left : RowEdges → ℤ → ℤ
weight_left r = weight_in_all (take (vec_len r.pile.now.parts) r.edges)

-- from row `bottom` up to row y, f is the same in each column
pub record AreSameRows (f : ℤ → ℤ → ℤ) (bottom y : ℤ) : Type 0 where
  pub low : least_coordinate ≤ℤ bottom
  pub order : bottom ≤ℤ y
  pub same : (x v : ℤ) → bottom ≤ℤ v → v ≤ℤ y → f x v ≡ f x y
