use Rattle.std.proofs.Common.{refl}
use Rattle.mf_desk.proofs.ScriptEnds.{Breaks-unended, EndsWith-ended}
use Rattle.mf_desk.proofs.progress.Progress.finish.Goals as goal

pub returns-in-Ok-clause-over : goal.returns-in-Ok-clause-over
returns-in-Ok-clause-over g c = λ s reads.
    EndsWith-ended s c.args.self.performer reads _ (c.in-Ok.ensures.ended _ reads.2.done.stands) refl

pub returns-in-Ok-clause-identity : goal.returns-in-Ok-clause-identity
returns-in-Ok-clause-identity g c = λ s reads. (c.in-Ok.ensures.ended _ reads.2.done.stands).identity_is

pub returns-in-Err-clause-fault : goal.returns-in-Err-clause-fault
returns-in-Err-clause-fault g c = λ s all_read reads. Breaks-unended s c.args.self.performer reads all_read
