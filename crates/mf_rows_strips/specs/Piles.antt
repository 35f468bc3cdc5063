-- Piles of parts.
use Rattle.std.specs.Prelude.{◌≤◌, ℕ, ℤ, ◌≤ℤ◌, List, length}
use Rattle.std.specs.declared.alloc.Global.{Global}
use Rattle.std.specs.declared.sync.Arc.{Arc}
use Rattle.std.proofs.Props.{props}
use Rattle.mf_rows_edges.specs.LawfulWeights.{greatest_weight, IsInReach}
use Rattle.mf_rows_strips.specs.declared.part.Part.{Part}
use Rattle.mf_rows_strips.specs.Parts.{weight_in_parts}

-- the most parts that a pile has; a number of its own, with which the constant of the code is compared by the proofs
abbrev pub most_parts : ℕ
most_parts = 32

-- there are not too many parts, and no weight exceeds a lawful reach in absolute value
pub record ArePiled (ps : List (Arc Part Global)) (reach : ℤ) : Type 0 where
  pub few : length ps ≤ most_parts
  pub within : (x y : ℤ) → IsInReach reach (weight_in_parts ps x y)
  pub most : reach ≤ℤ greatest_weight

-- this fact has at most one proof
pub ArePiled-prop : (ps : List (Arc Part Global)) (reach : ℤ) → IsProp (ArePiled ps reach)
ArePiled-prop ps reach = hlevel props
