use Rattle.mf_view_frame.proofs.Painting.{AreDarkenedTo}
use Rattle.mf_view_frame.proofs.cells.darken.Given as goal

abbrev pub invariant-loop-place : goal.invariant-loop-place
invariant-loop-place l = AreDarkenedTo (record { start = l.start; end = l.end; shade = l.shade }) l.initial.shades.items l.place l.shades.items
