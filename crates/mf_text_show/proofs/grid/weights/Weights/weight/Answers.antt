use Rattle.std.proofs.Common.{w32, arith, sym}
use Rattle.std.proofs.lemmas.Int.{ints, to_z-of_z}
use Rattle.mf_text_show.proofs.PassedPixels.{weight_of_none}
use Rattle.mf_text_show.proofs.grid.weights.Weights.weight.Goals as goal
use Rattle.mf_rows.proofs.DotsLemmas.{weight_at-before}
use Rattle.mf_rows.proofs.RunDots.{dots_from-runs, weight_at-append_none}
use Rattle.mf_rows.proofs.RunsLemmas.{with_next-some}

pub returns-in-Some-clause-weight : goal.returns-in-Some-clause-weight
returns-in-Some-clause-weight c = grind (arith, ints, to_z-of_z, weight_at-before, dots_from-runs, weight_at-append_none, with_next-some, sym)

pub returns-in-None-clause-weight : goal.returns-in-None-clause-weight
returns-in-None-clause-weight c =
    rw (to_z-of_z w32 c.args.x c.ranges.x, to_z-of_z w32 c.args.y c.ranges.y) at (weight_of_none _ _ _ c.in-None.is c.pass.ensures.later)
