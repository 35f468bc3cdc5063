use Rattle.std.proofs.Common.{arith}
use Rattle.mf_base.proofs.Faults.{IfErr-raised}
use Rattle.mf_view.proofs.Shown.{nothing_is_told}
use Rattle.mf_view.proofs.performance.perform.Goals as goal

pub returns-in_err-progress-clause-fault : goal.returns-in_err-progress-clause-fault
returns-in_err-progress-clause-fault g c = grind (arith, IfErr-raised, nothing_is_told)

pub returns-in-Ok-clause-shown : goal.returns-in-Ok-clause-shown
returns-in-Ok-clause-shown g c = rw c.new-easel.ensures.manner at c.show.ensures.shown

pub returns-clause-fault : goal.returns-clause-fault
returns-clause-fault g c = nothing_is_told _ _ _ _
