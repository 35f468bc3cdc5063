use Rattle.std.proofs.Common.{◌∙◌}
use Rattle.mf_view.proofs.observer.note_shipped.Goals as goal

pub returns : goal.returns
returns g c = λ s stands. c.in_ok-add_shipped.ensures _ (c.image.ensures ∙ (c.in_ok-plate.ensures s stands).svg.bytes_are)
