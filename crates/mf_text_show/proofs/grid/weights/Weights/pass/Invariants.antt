use Rattle.std.proofs.Common.{length}
use Rattle.mf_rows.specs.Dots.{place}
use Rattle.mf_text_show.specs.RunsAhead.{dots_ahead, runs_ahead}
use Rattle.mf_text_show.proofs.PassedPixels.{AreAhead}
use Rattle.mf_text_show.proofs.grid.weights.Weights.pass.Given as goal

abbrev pub invariant-loop-self : goal.invariant-loop-self
invariant-loop-self l = AreAhead (place l.x l.y) (dots_ahead l.initial.self) (runs_ahead l.self)

abbrev pub decreases-loop-self : goal.decreases-loop-self
decreases-loop-self l = length (runs_ahead l.self)
