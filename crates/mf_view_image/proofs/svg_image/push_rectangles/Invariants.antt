use Rattle.std.proofs.Common.{◌++◌, flat_map}
use Rattle.mf_rows.specs.Runs.{runs_of}
use Rattle.mf_view_image.specs.Svg.{rectangle_of}
use Rattle.mf_text_show.proofs.WrittenRuns.{AreWritten}
use Rattle.mf_view_image.proofs.svg_image.push_rectangles.Given as goal

abbrev pub invariant-loop-run : goal.invariant-loop-run
invariant-loop-run l =
    AreWritten (rectangle_of l.weight) (l.initial.text.items ++ flat_map (rectangle_of l.weight) (runs_of l.picture)) l.run-iterator l.text.items
