use Rattle.mf_base.proofs.Faults.{IfErr-raised}
use Rattle.mf_desk.proofs.AfterBytes.{IsAfter-ended, Stops-ended, StandsForEnded-kept}
use Rattle.mf_desk.proofs.progress.Progress.end_line.Goals as goal

pub returns-in_err-perform-clause-fault : goal.returns-in_err-perform-clause-fault
returns-in_err-perform-clause-fault g c =
    let broken = rw c.at_line_feed.ensures at c.in_err-perform.ensures.fault in
    IfErr-raised c.from_residual.result _ c.from_residual.ensures.1 (record {
      stops = λ held left read more after.
          Stops-ended held _ read c.args.self.now after _ left _ more _ (StandsForEnded-kept held _ read c.args.self.now after) broken;
    })

pub returns-clause-after : goal.returns-clause-after
returns-clause-after g c = record {
  goes_on = λ held read after. IsAfter-ended held _ read c.args.self.now after _ _ _ (StandsForEnded-kept held _ read c.args.self.now after)
      (rw (← c.at_line_feed.ensures) c.in_ok-perform.ensures.written) c.perform.ensures.limits c.clear.ensures;
}
