use Rattle.std.proofs.Common.{◌∙◌}
use Rattle.std.proofs.lemmas.Result.{IfOk-weaker}
use Rattle.mf_rows.proofs.RunCorners.{part_built}
use Rattle.mf_rows.proofs.builder.RowBuilder.finish.Goals as goal

pub part_of_corners-requires : goal.part_of_corners-requires
part_of_corners-requires c = c.self.invariant.swept

pub returns-clause-value : goal.returns-clause-value
returns-clause-value c =
    rw (← c.self.view_is) (IfOk-weaker c.of_part.result _ _ (λ picture same. same ∙ part_built _ _ _ c.self.invariant c.in_ok-part_of_corners.ensures.weights) c.of_part.ensures.value)
