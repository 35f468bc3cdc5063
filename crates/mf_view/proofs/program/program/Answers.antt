use Rattle.mf_view.proofs.Reports.{ReportsFault-nothing, ReportsFault-script}
use Rattle.mf_view.proofs.program.program.Goals as goal

pub returns-in-Err-OutOfMemory-clause-fault : goal.returns-in-Err-OutOfMemory-clause-fault
returns-in-Err-OutOfMemory-clause-fault g c = λ _. ReportsFault-nothing _ _ _ c.report.ensures.status _ _ _ c.report.ensures.message

pub returns-in-Err-clause-fault : goal.returns-in-Err-clause-fault
returns-in-Err-clause-fault g c = λ _.
    ReportsFault-script _ c.in-Err.fault _ c.report-in-Err.ensures.status (g.E.Write.contents c.watch.new.errors) _ c.in-Show.words
    (rw c.in-Show.is at c.in-Ok.ensures.value) c.in-Err.ensures.fault c.report-in-Err.ensures.message
