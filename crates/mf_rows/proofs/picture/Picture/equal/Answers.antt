use Rattle.std.proofs.Common.{List}
use Rattle.mf_rows.specs.declared.run.Run.{Run}
use Rattle.mf_rows.proofs.EqualRuns.{run_decides, eq_decides, same_from_runs, same_weights}
use Rattle.mf_rows.proofs.picture.Picture.equal.Goals as goal

pub returns-clause-answer : goal.returns-clause-answer
returns-clause-answer c =
    same_from_runs _ c.runs.ensures.runs c.runs-2.ensures.runs
    (eq_decides (λ (runs : List Run). runs) (λ (runs : List Run). runs) _ run_decides _ _ _ c.eq.ensures.ran)

pub returns-clause-weights : goal.returns-clause-weights
returns-clause-weights c =
    same_weights _ _ _ c.runs.ensures.lawful c.runs-2.ensures.lawful (returns-clause-answer c)
