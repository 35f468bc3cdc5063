use Rattle.std.proofs.Common.{refl}
use Rattle.mf_desk.proofs.AfterBytes.{IsAfter-start}
use Rattle.mf_desk.proofs.progress.Progress.new.Goals as goal

pub returns-in-Ok-clause-start : goal.returns-in-Ok-clause-start
returns-in-Ok-clause-start g c = λ held. IsAfter-start held _ c.in-Ok.ensures.start refl c.new-line.ensures
