-- Maps of weights, which take each weight by itself.
use Rattle.std.specs.Prelude.{◌≡◌, ◌&&◌, Bool, ℤ, pos, int_le, List, ◌++◌, if◌then◌else◌}
use Rattle.mf_rows_edges.specs.declared.edge.Edge.{Edge}
use Rattle.mf_rows_edges.specs.declared.weight_map.WeightMap.{WeightMap}
use Rattle.mf_rows_edges.specs.Edges.{AreEdges, weight_in}
use Rattle.mf_rows_edges.specs.LawfulWeights.{IsLawfulWeight}
use Rattle.mf_rows_edges.specs.Sums.{HaveWeights}

-- whether weight v lies in the range from a to b, both inclusive
abbrev pub is_within : ℤ → ℤ → ℤ → Bool
is_within a b v = int_le a v && int_le v b

-- what weight v becomes by a map
unfoldable pub mapped_weight : WeightMap → ℤ → ℤ
mapped_weight m v = if is_within m.low m.high v then m.inside else m.outside

-- weight 0 stays 0, and lawful weights become lawful ones
pub record IsWeightMap (m : WeightMap) : Type 0 where
  pub zero : mapped_weight m (pos 0) ≡ pos 0
  pub lawful : (v : ℤ) → IsLawfulWeight v → IsLawfulWeight (mapped_weight m v)

-- what the weight at column x of a row becomes
unfoldable pub mapped_in : WeightMap → List Edge → ℤ → ℤ
mapped_in m es x = mapped_weight m (weight_in es x)

-- the edges of a row with the mapped weights of another
pub record AreMapped (m : WeightMap) (es new : List Edge) : Type 0 where
  pub edges : AreEdges new
  pub weights : HaveWeights (mapped_in m es) new

-- such edges were appended to a list
pub record HasMappedEdges (m : WeightMap) (es before after : List Edge) : Type 0 where
  pub more : List Edge
  pub all : after ≡ before ++ more
  pub mapped : AreMapped m es more
