use Rattle.std.proofs.Common.{[], append-nil, arith, drop, length, refl, take, take-append-drop}
use Rattle.std.proofs.KnownBytes.{Appends-kept}
use Rattle.std.proofs.lemmas.List.{length-take-le}
use Rattle.std.proofs.lemmas.Result.{IfErr-weaker}
use Rattle.mf_desk.proofs.ended_run.EndedRun.write.Goals as goal

pub returns-in-Err-clause-fault : goal.returns-in-Err-clause-fault
returns-in-Err-clause-fault g c =
    let lines = c.args.lines.now in
    let count = c.in-Err.count in
    let counted = length-take-le count lines (omega (arith, c.in-Err.ensures.within)) in
    (take count lines, c.in-Err.ensures.front, (count, omega arith, (counted, drop count lines, take-append-drop count lines)))

pub returns-clause-fault : goal.returns-clause-fault
returns-clause-fault g c =
    let lines = c.args.lines.now in
    IfErr-weaker c.flush.result _ _ (λ fault is. rw is (
      lines,
      Appends-kept _ _ _ lines c.in-Ok.ensures.all c.flush.ensures.kept,
      (length lines, omega arith, (refl, [], append-nil lines)),
    )) c.flush.ensures.fault
