use Rattle.std.proofs.Common.{◌≡◌, ◌<◌, ◌∙◌, All, IfErr, IfOk, ap, inr, length, refl, subst, sym, arith}
use Rattle.mf_base.proofs.Faults.{IfErr-raised}
use Rattle.mf_desk.specs.EndedRuns.{glance}
use Rattle.mf_desk.specs.Performances.{viewer_lines}
use Rattle.mf_desk_watch.specs.Watchers.{IsRecord}
use Rattle.mf_desk.proofs.Showing.{IsSameEnd-trans, ShowsLines-written, TellsOfRun-cut, TellsOfRun-unshown}
use Rattle.mf_desk.proofs.ended_run.EndedRun.show.Goals as goal

pub returns-in-Err-clause-fault : goal.returns-in-Err-clause-fault
returns-in-Err-clause-fault g c = λ settings viewers unread left held all_read joined some ends.
    TellsOfRun-unshown unread left held _ c.args.self.now settings viewers all_read ends _ (inr (refl, subst (λ r. IfErr r (λ _. 0 < viewers)) c.in-Err.is some))

pub returns-in_err-seen-clause-fault : goal.returns-in_err-seen-clause-fault
returns-in_err-seen-clause-fault g c =
    IfErr-raised c.from_residual.result _ c.from_residual.ensures.1 (λ settings viewers unread left held all_read joined some ends.
    let count = subst (λ r. IfOk r (λ watchers. length watchers.items ≡ viewers)) c.in-Ok.is joined in
    TellsOfRun-unshown unread left held _ c.args.self.now settings viewers all_read ends _ (rw count at c.in_err-seen.ensures.fault))

pub returns-in_err-write-clause-fault : goal.returns-in_err-write-clause-fault
returns-in_err-write-clause-fault g c =
    IfErr-raised c.from_residual-in_err-write.result _ c.from_residual-in_err-write.ensures.1 (λ settings viewers unread left held all_read joined some ends.
    let count = subst (λ r. IfOk r (λ watchers. length watchers.items ≡ viewers)) c.in-Ok.is joined in
    let lines = ap (λ n. viewer_lines n (glance c.args.self.now)) count in
    TellsOfRun-cut unread left held _ c.args.self.now settings viewers all_read ends _ _ (c.as_slice.ensures.value ∙ c.in_ok-seen.ensures.lines ∙ lines) _
    (rw c.look_last.ensures.written at c.in_err-write.ensures.fault))

pub returns-clause-seen : goal.returns-clause-seen
returns-clause-seen g c = λ looks records.
    c.in_ok-seen.ensures.seen looks (subst (λ r. IfOk r (λ watchers. All (IsRecord looks) watchers.items)) c.in-Ok.is records)

pub returns-clause-over : goal.returns-clause-over
returns-clause-over g c =
    let lines = c.as_slice.ensures.value ∙ c.in_ok-seen.ensures.lines ∙ ap (λ n. viewer_lines n (glance c.args.self.now)) (sym c.in_ok-seen.ensures.count) in
    ShowsLines-written _ _ _ (IsSameEnd-trans c.look_last.ensures.same c.write.ensures.same) lines c.in_ok-write.ensures.all
    (omega (arith, c.in_ok-write.ensures.written, c.look_last.ensures.written))
