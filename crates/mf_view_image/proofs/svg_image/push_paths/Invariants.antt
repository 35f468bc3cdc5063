use Rattle.std.proofs.Common.{◌++◌}
use Rattle.mf_rows.specs.Runs.{runs_of}
use Rattle.mf_rows.specs.Boxes.{extent}
use Rattle.mf_view_image.specs.Svg.{paths_from}
use Rattle.mf_view_image.proofs.PathTexts.{ArePathsBefore}
use Rattle.mf_view_image.proofs.svg_image.push_paths.Given as goal

abbrev pub invariant-loop-weight : goal.invariant-loop-weight
invariant-loop-weight l =
    let runs = runs_of l.picture in
    ArePathsBefore runs l.weight l.greatest l.text.items (l.initial.text.items ++ paths_from runs l.least (extent l.least l.greatest))
