-- Strips whose weights are changed, each by itself.
use Rattle.std.specs.Prelude.{◌≡◌, ℤ, pos, neg_ℤ, ◌≤ℤ◌, ◌⊎◌, List, [], ◌∷◌, ◌++◌}
use Rattle.std.specs.Int.{int_wrapping_neg}
use Rattle.std.specs.Int.Width.{w32}
use Rattle.mf_rows_edges.specs.declared.edge.Edge.{Edge}
use Rattle.mf_rows_edges.specs.declared.weight_map.WeightMap.{WeightMap}
use Rattle.mf_rows_edges.specs.LawfulWeights.{greatest_weight, IsInReach, IsLawfulWeight}
use Rattle.mf_rows_edges.specs.WeightMaps.{mapped_weight, AreMapped}
use Rattle.mf_rows_strips.specs.Strips.{EdgeStrip, last_row, weight_in_strips}

-- the negated weight of the pixel (x, y) in strips
unfoldable pub negated_weight_in : List EdgeStrip → ℤ → ℤ → ℤ
negated_weight_in ss x y = neg_ℤ (weight_in_strips ss x y)

-- an edge with its weight negated, or with the same weight where 32 bits do not hold that
abbrev pub negated_edge : Edge → Edge
negated_edge e = record { x = e.x; weight = int_wrapping_neg w32 e.weight }

-- the weights f after each is mapped
abbrev pub mapped_weights : WeightMap → (ℤ → ℤ → ℤ) → ℤ → ℤ → ℤ
mapped_weights m f x y = mapped_weight m (f x y)

-- a strip with the mapped weights of a row was appended, unless the last one has its edges
pub record HasMappedStrip (m : WeightMap) (top : ℤ) (es : List Edge) (before after : List EdgeStrip) : Type 0 where
  pub edges : List Edge
  pub mapped : AreMapped m es edges
  pub strips : (after ≡ before ++ record { top = top; edges = edges } ∷ []) ⊎ ((edges ≡ last_row before) × (after ≡ before))

-- a number in 0..=32767, which no lawful weight that a map makes exceeds in absolute value
pub record IsReachOfMap (m : WeightMap) (reach : ℤ) : Type 0 where
  pub least : pos 0 ≤ℤ reach
  pub most : reach ≤ℤ greatest_weight
  pub within : (w : ℤ) → IsLawfulWeight (mapped_weight m w) → IsInReach reach (mapped_weight m w)
