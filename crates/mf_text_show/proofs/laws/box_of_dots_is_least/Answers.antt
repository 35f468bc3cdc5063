use Rattle.std.proofs.Common.{[], refl}
use Rattle.mf_rows.proofs.BoxesOfDots.{least_box_is, least_box_of_dots, no_box}
use Rattle.mf_text_show.proofs.laws.box_of_dots_is_least.Goals as goal

pub returns : goal.returns
returns c = record { least = least_box_of_dots; one = least_box_is; blank = no_box [] refl }
