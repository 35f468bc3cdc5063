use Rattle.mf_view.proofs.Shown.{nothing_is_told_into}
use Rattle.mf_view.proofs.program.perform_with_transcript.Goals as goal

pub returns-in_default-create-clause-fault : goal.returns-in_default-create-clause-fault
returns-in_default-create-clause-fault g c = nothing_is_told_into _ _ _ _ _

pub returns-in_default-with_capacity-clause-fault :
    goal.returns-in_default-with_capacity-clause-fault
returns-in_default-with_capacity-clause-fault g c = nothing_is_told_into _ _ _ _ _
