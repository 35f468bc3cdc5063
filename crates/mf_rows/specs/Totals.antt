-- Sums of the weights of a row, and of rows.
use Rattle.std.specs.Prelude.{ℤ, pos, ◌+ℤ◌, ◌-ℤ◌, List}
use Rattle.std.specs.Int.RustNames.{unsigned_abs}
use Rattle.mf_geom.specs.Coordinates.{least_coordinate, greatest_coordinate}
use Rattle.mf_geom.specs.Sum.{sum_below}
use Rattle.mf_rows_edges.specs.declared.edge.Edge.{Edge}
use Rattle.mf_rows_edges.specs.Edges.{weight_in}

-- the sum of the numbers f z, where z goes from `low` up to the one before `high`, which is not less than `low`
unfoldable pub sum_from : ℤ → ℤ → (ℤ → ℤ) → ℤ
sum_from low high f = sum_below (unsigned_abs (high -ℤ low)) (λ i. f (low +ℤ pos i))

-- the sum of the weights of a row with these edges to the left of column x, with the column to the left of the field
unfoldable pub edges_total : List Edge → ℤ → ℤ
edges_total es x = sum_from (least_coordinate -ℤ pos 1) x (weight_in es)

-- the sum of the weights of row y to the left of column x, with the column to the left of the field
unfoldable pub row_total : (ℤ → ℤ → ℤ) → ℤ → ℤ → ℤ
row_total f y x = sum_from (least_coordinate -ℤ pos 1) x (λ z. f z y)

-- the sum of the weights of the rows of the field below height h
unfoldable pub rows_total : (ℤ → ℤ → ℤ) → ℤ → ℤ
rows_total f h = sum_from least_coordinate h (λ y. row_total f y greatest_coordinate)
