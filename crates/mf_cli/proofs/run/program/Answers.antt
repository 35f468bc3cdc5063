use Rattle.std.proofs.Common.{inl, sym}
use Rattle.mf_desk.proofs.Performances.{TellsOfRun-nothing}
use Rattle.mf_cli.specs.Output.{settings}
use Rattle.mf_cli.proofs.run.program.Goals as goal

pub returns-in-Err-OutOfMemory-clause-fault : goal.returns-in-Err-OutOfMemory-clause-fault
returns-in-Err-OutOfMemory-clause-fault g c = λ _. record {
  fault = c.into.result;
  status_is = sym c.report.ensures.status;
  message = c.report.ensures.message;
  tells = rw c.into.ensures (inl (TellsOfRun-nothing settings _ _ _));
}
