use Rattle.mf_rows.specs.Dots.{start_of_field}
use Rattle.mf_rows.proofs.BoundsInField.{bounds_in_field}
use Rattle.mf_rows.proofs.DotsLemmas.{dots_from-lawful, weight_at-outside}
use Rattle.mf_rows.proofs.PassedRuns.{lawful_runs_of}
use Rattle.mf_rows.proofs.WeightsLemmas.{lawful_weight_at}
use Rattle.mf_rows.proofs.laws.pictures_lie_in_the_field.Goals as goal

pub returns-clause-outside : goal.returns-clause-outside
returns-clause-outside c = weight_at-outside

pub returns-clause-lawful : goal.returns-clause-lawful
returns-clause-lawful c ds x y picture = lawful_weight_at ds x y (dots_from-lawful start_of_field ds picture.dots)

pub returns-clause-runs : goal.returns-clause-runs
returns-clause-runs c = lawful_runs_of

pub returns-clause-bounds : goal.returns-clause-bounds
returns-clause-bounds c = bounds_in_field
