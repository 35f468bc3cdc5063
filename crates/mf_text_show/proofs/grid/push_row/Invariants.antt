use Rattle.mf_rows.specs.Dots.{place}
use Rattle.mf_text_show.specs.Grid.{grid_character, shown_at}
use Rattle.mf_text_show.specs.RunsAhead.{dots_ahead, runs_ahead}
use Rattle.mf_text_show.proofs.PassedPixels.{AreAhead}
use Rattle.mf_text_show.proofs.ShownRows.{IsRowSoFar}
use Rattle.mf_text_show.proofs.grid.push_row.Given as goal

abbrev pub invariant-loop-x : goal.invariant-loop-x
invariant-loop-x l =
    IsRowSoFar (record {
      show = shown_at grid_character (dots_ahead l.initial.weights) l.y;
      first = l.first;
      last = l.last;
      old = l.initial.text.items;
    }) l.x l.text.items
    × AreAhead (place l.x l.y) (dots_ahead l.initial.weights) (runs_ahead l.weights)
