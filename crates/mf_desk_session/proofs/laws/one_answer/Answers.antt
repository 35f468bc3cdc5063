use Rattle.mf_desk_session.proofs.OneTranscript.{one_answer}
use Rattle.mf_desk_session.proofs.laws.one_answer.Goals as goal

pub returns-clause-one : goal.returns-clause-one
returns-clause-one c = one_answer
