use Rattle.std.proofs.Common.{[], codes, pos, ◌-ℤ◌}
use Rattle.mf_rows.specs.Dots.{place}
use Rattle.mf_text_show.specs.Grid.{grid_character, shown_at}
use Rattle.mf_text_show.specs.RunsAhead.{runs_ahead}
use Rattle.mf_text_show.proofs.PassedPixels.{AreAhead}
use Rattle.mf_text_show.proofs.ShownRows.{IsBoxSoFar}
use Rattle.mf_text_show.proofs.grid.box_text.Given as goal

abbrev pub invariant-loop-y : goal.invariant-loop-y
invariant-loop-y l =
    IsBoxSoFar (record { show = shown_at grid_character l.picture; end = codes "\n"; bounds = l.bounds; head = [] }) (l.y -ℤ pos 1) l.text.items
    × AreAhead (place l.bounds.min_x (l.y -ℤ pos 1)) l.picture (runs_ahead l.weights)
