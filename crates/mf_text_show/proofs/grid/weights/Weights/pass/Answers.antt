use Rattle.std.proofs.Common.{w32, refl}
use Rattle.std.proofs.lemmas.Int.{to_z-of_z}
use Rattle.mf_text_show.proofs.PassedPixels.{one_more_passed}
use Rattle.mf_text_show.proofs.grid.weights.Weights.pass.Goals as goal

pub returns-then-not-is_before-clause-later : goal.returns-then-not-is_before-clause-later
returns-then-not-is_before-clause-later c = rw (to_z-of_z w32 c.args.x c.ranges.x, to_z-of_z w32 c.args.y c.ranges.y) at c.loop-self.invariant.same

pub loop-self-preserved : goal.loop-self-preserved
loop-self-preserved c = one_more_passed _ _ _ c.in-Some.is (c.if-not-is_before.ensures.0 refl) c.next-self.ensures.steps c.loop-self.invariant

pub returns-clause-later : goal.returns-clause-later
returns-clause-later c = rw (to_z-of_z w32 c.args.x c.ranges.x, to_z-of_z w32 c.args.y c.ranges.y) at c.loop-self.invariant.same
