-- The lines of viewers.
use Rattle.std.proofs.Common.{◌≡◌, ◌+◌, ℕ, [], ◌++◌, refl}
use native.Mathlib.Numerals.{unary_clauses}
use Rattle.mf_desk_watch.specs.declared.glance.Glance.{Glance}
use Rattle.mf_desk.specs.Performances.{viewer_line, viewer_lines}

-- no viewer has no line
pub lines-nobody : (g : Glance) → viewer_lines 0 g ≡ []
unfolding viewer_lines
lines-nobody g = refl

-- one more viewer has one more line
pub lines-more : (n : ℕ) (g : Glance) → viewer_lines (n + 1) g ≡ viewer_lines n g ++ viewer_line n g
unfolding viewer_lines
lines-more n g = simp unary_clauses
