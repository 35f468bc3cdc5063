-- Reaches of rows: bounds on the absolute values of their weights.
use Rattle.std.specs.Prelude.{◌≡◌, ℤ, pos, ◌≤ℤ◌, List}
use Rattle.std.proofs.Math.IntN.{nat_abs}
use Rattle.std.proofs.Props.{props}
use Rattle.mf_rows_edges.specs.LawfulWeights.{greatest_weight, IsInReach}
use Rattle.mf_rows_edges.specs.declared.edge.Edge.{Edge}
use Rattle.mf_rows_edges.specs.Edges.{weight_in}

-- no weight of a row exceeds a reach in absolute value, and the reach is at most 32767
pub record StaysInReach (reach : ℤ) (es : List Edge) : Type 0 where
  pub most : reach ≤ℤ greatest_weight
  pub within : (x : ℤ) → IsInReach reach (weight_in es x)

-- no weight exceeds a number in absolute value, and the weight at some column has it, so it is 0 where there are no edges
pub record IsLeastReach (reach : ℤ) (es : List Edge) : Type 0 where
  pub within : (x : ℤ) → IsInReach reach (weight_in es x)
  pub x : ℤ
  pub here : pos (nat_abs (weight_in es x)) ≡ reach

-- ---- this fact has at most one proof

pub StaysInReach-prop : (reach : ℤ) (es : List Edge) → IsProp (StaysInReach reach es)
StaysInReach-prop reach es = hlevel props
