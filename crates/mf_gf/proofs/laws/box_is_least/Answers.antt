use Rattle.mf_gf.proofs.BlackBoxes.{least_box}
use Rattle.mf_gf.proofs.laws.box_is_least.Goals as goal

pub returns : goal.returns
returns c = least_box
