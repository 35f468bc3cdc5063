use Rattle.mf_view_image.proofs.PathTexts.{AreSpanned}
use Rattle.mf_view_image.proofs.svg_image.weights.Given as goal

abbrev pub invariant-loop-run : goal.invariant-loop-run
invariant-loop-run l = AreSpanned l.picture l.run-iterator l.least l.greatest
