use Rattle.std.proofs.Common.{ℕ, ◌<◌, false}
use Rattle.mf_geom.proofs.path.first_place.Given as goal

abbrev pub invariant-loop-place : goal.invariant-loop-place
invariant-loop-place g l = (k : ℕ) → k < l.place → goal.F-post g l.at_fault k false
