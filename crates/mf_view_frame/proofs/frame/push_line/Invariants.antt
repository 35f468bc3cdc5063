use Rattle.std.proofs.Common.{pos, ◌+ℤ◌}
use Rattle.mf_view_frame.specs.Cells.{shade_in}
use Rattle.mf_view_frame.proofs.FrameLines.{AreTilesSoFar}
use Rattle.mf_view_frame.proofs.frame.push_line.Given as goal

abbrev pub invariant-loop-place : goal.invariant-loop-place
invariant-loop-place l =
    AreTilesSoFar (record { style = l.style; shades = shade_in l.window l.shades; window = l.window; old = l.initial.text.items })
    (l.window.line +ℤ pos l.fn.above) l.place l.text.items
