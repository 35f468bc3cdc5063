use Rattle.mf_geom.proofs.Crossings.{winding-crossings}
use Rattle.mf_geom.proofs.laws.winding_counts_crossings.Goals as goal

pub returns : goal.returns
returns c = winding-crossings
