use Rattle.mf_view_frame.specs.Cells.{shade_in}
use Rattle.mf_view_frame.proofs.FrameLines.{AreLinesSoFar}
use Rattle.mf_view_frame.proofs.frame.push_lines.Given as goal

abbrev pub invariant-loop-above : goal.invariant-loop-above
invariant-loop-above l = AreLinesSoFar
    (record { style = l.style; shades = shade_in l.window l.shades; window = l.window; old = l.initial.text.items }) l.above l.text.items
