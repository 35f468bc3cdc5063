-- Culls (The METAFONTbook, chapter 13).
use Rattle.std.specs.Prelude.{◌≡◌, false, ℤ, pos, ◌≤ℤ◌, if◌then◌else◌}
use Rattle.mf_rows_edges.specs.WeightMaps.{is_within}
use Rattle.mf_ops.specs.declared.cull.CullRule.{CullRule}
use Rattle.mf_ops.specs.declared.cull.CullRule.TheVariants.{Keeping, Dropping}

-- the weight that a cull gives to a pixel of weight v
abbrev pub culled_weight : CullRule → ℤ → ℤ
culled_weight (Keeping a b w) v = if is_within a b v then w else pos 0
culled_weight (Dropping a b w) v = if is_within a b v then pos 0 else w

-- a cull is lawful where it keeps a range that is not empty and does not contain 0, or drops a range that contains 0
abbrev pub IsLawfulCull : CullRule → Type 0
IsLawfulCull (Keeping a b w) = (a ≤ℤ b) × (is_within a b (pos 0) ≡ false)
IsLawfulCull (Dropping a b w) = (a ≤ℤ pos 0) × (pos 0 ≤ℤ b)
