use Rattle.std.proofs.Common.{arith}
use Rattle.std.proofs.lemmas.List.Elements.{All-nil}
use Rattle.std.proofs.lemmas.Result.{IfErr-weaker, IfOk-weaker, on_ok_weaker}
use Rattle.mf_base.proofs.Faults.{IfErr-raised}
use Rattle.mf_desk.proofs.Performances.{TellsOfRun-script, TellsOfRun-unstarted}
use Rattle.mf_desk.proofs.script.run.Goals as goal

pub returns-in_err-progress-clause-fault : goal.returns-in_err-progress-clause-fault
returns-in_err-progress-clause-fault g c = grind (arith, IfErr-raised, TellsOfRun-unstarted)

pub returns-in_err-ended-clause-fault : goal.returns-in_err-ended-clause-fault
returns-in_err-ended-clause-fault g c =
    IfErr-raised c.from_residual-in_err-ended.result _ c.from_residual-in_err-ended.ensures.1
    (TellsOfRun-script c.args.settings.now 0 _ _ c.in_ok-progress.ensures.limits c.in_err-ended.ensures.fault)

pub returns-clause-transcript : goal.returns-clause-transcript
returns-clause-transcript g c =
    let ends = rw c.in_ok-progress.ensures.limits at c.in_ok-ended.ensures.over in
    let performance = rw c.new-seen.ensures.items at c.conclude.ensures.performance in
    IfOk-weaker c.conclude.result _ _ (λ outcome performs looks. performs looks _ (All-nil _) ends) performance

pub returns-clause-end : goal.returns-clause-end
returns-clause-end g c = grind (arith, on_ok_weaker)

pub returns-clause-fault : goal.returns-clause-fault
returns-clause-fault g c =
    let ends = rw c.in_ok-progress.ensures.limits at c.in_ok-ended.ensures.over in
    let unfinished = rw c.new-seen.ensures.items at c.conclude.ensures.fault in
    IfErr-weaker c.conclude.result _ _ (λ fault tells. tells _ c.in_ok-ended.ensures.end ends) unfinished
