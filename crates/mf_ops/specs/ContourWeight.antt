-- The weights of contours and of culls (The METAFONTbook, chapter 13).
use Rattle.std.specs.Prelude.{◌≢◌, ℤ, pos, neg_ℤ, ◌≤ℤ◌}

-- the weight w is -3, -2, -1, 1, 2 or 3
pub record IsContourWeight (w : ℤ) : Type 0 where
  pub least : neg_ℤ (pos 3) ≤ℤ w
  pub greatest : w ≤ℤ pos 3
  pub nonzero : w ≢ pos 0
