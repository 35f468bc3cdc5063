use Rattle.std.proofs.Common.{pos, ◌-ℤ◌, []}
use Rattle.mf_text_show.specs.Grid.{shown_at}
use Rattle.mf_view_image.specs.Pgm.{gray_value, pgm_head}
use Rattle.mf_text_show.proofs.ShownRows.{IsBoxSoFar}
use Rattle.mf_view_image.proofs.pgm_image.pgm_bytes.Given as goal

abbrev pub invariant-loop-y : goal.invariant-loop-y
invariant-loop-y l = IsBoxSoFar
    (record { show = shown_at gray_value l.picture; end = []; bounds = l.bounds; head = pgm_head l.bounds }) (l.y -ℤ pos 1) l.bytes.items
