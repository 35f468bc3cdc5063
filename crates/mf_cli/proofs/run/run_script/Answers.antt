use Rattle.std.proofs.lemmas.Result.{IfOk-weaker}
use Rattle.mf_base.proofs.Faults.{IfErr-raised}
use Rattle.mf_desk.proofs.Performances.{TellsOfRun-nothing}
use Rattle.mf_cli.specs.Output.{looks, settings}
use Rattle.mf_cli.proofs.run.run_script.Goals as goal

pub returns-then-viewers-eq0-clause-performance : goal.returns-then-viewers-eq0-clause-performance
returns-then-viewers-eq0-clause-performance g c =
    rw c.if-viewers-eq0.true (IfOk-weaker c.run.result _ _ (λ outcome performed. performed looks) c.run.ensures.transcript)

pub returns-then-viewers-eq0-clause-fault : goal.returns-then-viewers-eq0-clause-fault
returns-then-viewers-eq0-clause-fault g c = rw c.if-viewers-eq0.true c.run.ensures.fault

pub returns-in_err-gate-clause-fault : goal.returns-in_err-gate-clause-fault
returns-in_err-gate-clause-fault g c =
    IfErr-raised c.from_residual.result _ c.from_residual.ensures.1 (TellsOfRun-nothing settings c.args.viewers _ _)
