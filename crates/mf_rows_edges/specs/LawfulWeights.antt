-- The weights that a pixel may have.
use Rattle.std.specs.Prelude.{ℤ, pos, neg_ℤ, ◌≤ℤ◌}

-- the greatest weight of a pixel
abbrev pub greatest_weight : ℤ
greatest_weight = pos 32767

-- the least weight of a pixel
abbrev pub least_weight : ℤ
least_weight = neg_ℤ greatest_weight

-- a number does not exceed a reach in absolute value
pub record IsInReach (reach w : ℤ) : Type 0 where
  pub least : neg_ℤ reach ≤ℤ w
  pub greatest : w ≤ℤ reach

-- a pixel may have this weight
abbrev pub IsLawfulWeight : ℤ → Type 0
IsLawfulWeight w = IsInReach greatest_weight w
