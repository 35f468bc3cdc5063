use Rattle.mf_rows.proofs.PassedPixels.{runs_at_start}
use Rattle.mf_rows.proofs.runs.Runs.of.Goals as goal

pub returns : goal.returns
returns c = runs_at_start _ _ c.of.ensures
