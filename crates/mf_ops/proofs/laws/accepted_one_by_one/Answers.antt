use Rattle.mf_ops.proofs.Operations.{AreAccepted-front, AreAccepted-push}
use Rattle.mf_ops.proofs.laws.accepted_one_by_one.Goals as goal

pub returns-clause-more : goal.returns-clause-more
returns-clause-more c ops op = (AreAccepted-front ops op, λ both. AreAccepted-push ops op both.0 both.1)
