use Rattle.mf_desk_session.proofs.OneTranscript.{one_transcript}
use Rattle.mf_desk_session.proofs.laws.one_transcript.Goals as goal

pub returns-clause-one : goal.returns-clause-one
returns-clause-one c = one_transcript
