use Rattle.mf_text_show.specs.Grid.{shown_at}
use Rattle.mf_view_image.specs.Pgm.{gray_value}
use Rattle.mf_text_show.proofs.ShownRows.{IsRowSoFar}
use Rattle.mf_view_image.proofs.pgm_image.push_row.Given as goal

abbrev pub invariant-loop-x : goal.invariant-loop-x
invariant-loop-x l = IsRowSoFar
    (record { show = shown_at gray_value l.picture l.y; first = l.first; last = l.last; old = l.initial.bytes.items }) l.x l.bytes.items
