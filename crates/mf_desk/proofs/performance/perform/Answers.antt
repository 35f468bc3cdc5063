use Rattle.std.proofs.Common.{◌≡◌, ⊎_elim, All, IfOk, length, sym, subst, ◌∙◌, arith}
use Rattle.std.proofs.lemmas.List.Elements.{All-weaker}
use Rattle.std.proofs.lemmas.Result.{IfErr-weaker, IfOk-weaker}
use Rattle.mf_desk.specs.declared.fault.RunFault.TheVariants as faults
use Rattle.mf_desk.specs.EndedRuns.{EndsWith}
use Rattle.mf_desk.specs.Performances.{Performs, TellsOfRun, run_limits, task}
use Rattle.mf_desk.specs.Streams.{Passes, Streams, streams}
use Rattle.mf_desk_session.specs.Sessions.{identity}
use Rattle.mf_desk_watch.specs.declared.watcher.Watcher.{Watcher}
use Rattle.mf_desk_watch.specs.Watchers.{HasSeen, IsRecord, IsWatcher}
use Rattle.mf_desk_watch.specs.Watching.{AreStarted, viewer_count}
use Rattle.mf_base.proofs.Faults.{IfErr-raised}
use Rattle.mf_desk.proofs.Performances.{TellsOfRun-nothing, TellsOfRun-script, TellsOfRun-unstarted, TellsOfRun-unwatched}
use Rattle.mf_desk.proofs.performance.perform.Goals.{After-join-joined, In-Ok-show}
use Rattle.mf_desk.proofs.performance.perform.Goals as goal

pub returns-in_err-progress-clause-fault : goal.returns-in_err-progress-clause-fault
returns-in_err-progress-clause-fault g c = grind (arith, IfErr-raised, TellsOfRun-unstarted)

pub returns-in-Err-clause-fault : goal.returns-in-Err-clause-fault
returns-in-Err-clause-fault g c =
    let settings = c.args.settings.now in
    ⊎_elim (λ none.
    let is : c.into.result ≡ faults.NoPlace = c.into.ensures.1 none in
    rw is (TellsOfRun-unwatched settings c.args.viewers _ _ c.in-Err.ensures.some))
    (λ wanting.
    let is : c.into.result ≡ faults.OutOfMemory = c.into.ensures.0 wanting in
    rw is (TellsOfRun-nothing settings c.args.viewers _ _)) c.in-Err.ensures.fault

pub returns-in_err-ended-clause-fault : goal.returns-in_err-ended-clause-fault
returns-in_err-ended-clause-fault g c =
    IfErr-raised c.from_residual-in_err-ended.result _ c.from_residual-in_err-ended.ensures.1
    (TellsOfRun-script c.args.settings.now _ _ _ c.in_ok-progress.ensures.limits c.in_err-ended.ensures.fault)

-- what holds of the watcher of each thread
watchers-all : (g : _) (c : After-join-joined g) (Q : Watcher → Type 0)
    → ((w : Watcher) → IsWatcher (identity c.in_ok-progress.progress.performer.session) c.args.looks 1 w → Q w)
    → IfOk c.join-joined.result (λ watchers. All Q watchers.items)
watchers-all g c Q each =
    let started = subst (λ picture. AreStarted picture c.args.looks c.in-Ok.watching) c.in_ok-progress.ensures.identity c.in-Ok.ensures.started in
    IfOk-weaker c.join-joined.result _ _ (λ watchers watched. All-weaker _ _ each watchers.items (watched _ _ started)) c.join-joined.ensures.watchers

pub show-requires-clause-identities : goal.show-requires-clause-identities
show-requires-clause-identities g c =
    watchers-all g (goal.at.show-requires-clause-identities g c).After-join-joined _ (λ w is. is.identity_is ∙ sym c.in_ok-ended.ensures.identity)

pub show-requires-clause-rooms : goal.show-requires-clause-rooms
show-requires-clause-rooms g c = watchers-all g (goal.at.show-requires-clause-rooms g c).After-join-joined _ (λ w is. is.room)

pub returns-in-Err-show-clause-fault : goal.returns-in-Err-show-clause-fault
returns-in-Err-show-clause-fault g c =
    let ends = rw c.in_ok-progress.ensures.limits at c.in_ok-ended.ensures.over in
    rw (sym c.in-Ok.ensures.count)
    (c.in-Err-show.ensures.fault c.args.settings.now (viewer_count c.in-Ok.watching) _ _ _ c.in_ok-ended.ensures.end c.join-joined.ensures.count
    c.join-joined.ensures.refused ends)

-- the streams of the run with the lines of its viewers
abbrev streams_of : (g : _) (c : In-Ok-show g) → Streams
streams_of g c =
    streams (g.R.Read.remaining c.args.reader.now) (g.R.Read.remaining c.complete-completed.new.reader) (g.W.Write.contents c.args.writer.now)
    (g.W.Write.contents c.show.new.writer)

-- the run is over, and the lines of its viewers are written
over : (g : _) (c : In-Ok-show g) → EndsWith (run_limits c.args.settings.now) (length c.in-Ok-show.seen.items) (streams_of g c) c.show.new.self
over g c =
    let s = streams_of g c in
    c.in-Ok-show.ensures.over _ s.unread s.left s.held (rw c.in_ok-progress.ensures.limits at c.in_ok-ended.ensures.over)

-- each viewer has a record
count : (g : _) (c : In-Ok-show g) → length c.in-Ok-show.seen.items ≡ c.args.viewers
count g c = c.in-Ok-show.ensures.count _ c.join-joined.ensures.count ∙ c.in-Ok.ensures.count

pub returns-in-Ok-show-clause-performance : goal.returns-in-Ok-show-clause-performance
returns-in-Ok-show-clause-performance g c =
    let path = goal.at.returns-in-Ok-show-clause-performance g c in
    let shown = path.In-Ok-show in
    let looks = c.args.looks in
    let records = watchers-all g path.After-join-joined (IsRecord looks) (λ w is. is.record_is) in
    let seen = subst (λ list. All (λ v. HasSeen list looks v.items) c.in-Ok-show.seen.items) (sym c.show.ensures.same.published)
    (c.in-Ok-show.ensures.seen looks records) in
    IfOk-weaker c.conclude.result _ _ (λ outcome performs.
    subst (λ n. Performs (task c.args.settings.now n looks) (streams_of g shown) outcome) (count g shown) (performs looks _ seen (over g shown)))
    c.conclude.ensures.performance

pub returns-in-Ok-show-clause-fault : goal.returns-in-Ok-show-clause-fault
returns-in-Ok-show-clause-fault g c =
    let shown = (goal.at.returns-in-Ok-show-clause-fault g c).In-Ok-show in
    IfErr-weaker c.conclude.result _ _ (λ fault tells.
    subst (λ n. Passes (streams_of g shown) (TellsOfRun c.args.settings.now n fault)) (count g shown) (tells _ c.in_ok-ended.ensures.end (over g shown)))
    c.conclude.ensures.fault
