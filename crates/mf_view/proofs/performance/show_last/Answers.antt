use Rattle.mf_view.proofs.Shown.{ends_same}
use Rattle.mf_view.proofs.performance.show_last.Goals as goal

pub returns-clause-over : goal.returns-clause-over
returns-clause-over g c = λ limits s. ends_same s _ _ c.notice.ensures.same c.notice.ensures.written limits
