use Rattle.std.proofs.Common.{◌∙◌}
use Rattle.std.proofs.lemmas.Result.{IfOk-weaker}
use Rattle.mf_view.proofs.Images.{name_of_first}
use Rattle.mf_view.proofs.plate.character_name.Goals as goal

pub returns-then-before-eq0 : goal.returns-then-before-eq0
returns-then-before-eq0 c =
    rw c.if-before-eq0.true (IfOk-weaker c.format.result _ _ (λ name is. is ∙ name_of_first c.args.code) c.format.ensures.ok)
