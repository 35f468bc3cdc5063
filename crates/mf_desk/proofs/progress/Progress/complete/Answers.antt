use Rattle.std.proofs.Common.{◌∙◌, subst}
use Rattle.std.proofs.lemmas.Result.{IfOk-weaker, IfErr-weaker}
use Rattle.mf_desk.specs.EndedRuns.{EndsWith}
use Rattle.mf_desk.specs.Faults.{Breaks}
use Rattle.mf_desk.specs.Streams.{Passes, Streams, streams}
use Rattle.mf_desk.proofs.progress.Progress.complete.Goals.{In-Ok}
use Rattle.mf_desk.proofs.progress.Progress.complete.Goals as goal

abbrev streams_of : (g : _) (c : In-Ok g) → Streams
streams_of g c =
    streams (g.R.Read.remaining c.args.reader.now) (g.R.Read.remaining c.read_all.new.reader) (g.W.Write.contents c.args.writer.now)
    (g.W.Write.contents c.read_all.new.writer)

pub returns-in-Ok-clause-over : goal.returns-in-Ok-clause-over
returns-in-Ok-clause-over g c =
    let s = streams_of g (goal.at.returns-in-Ok-clause-over g c).In-Ok in
    IfOk-weaker c.finish.result _ _ (λ run ended. subst (λ l. EndsWith l 0 s run) c.in-Ok.ensures.limits (ended s c.in-Ok.ensures.through)) c.finish.ensures.over

pub returns-in-Ok-clause-identity : goal.returns-in-Ok-clause-identity
returns-in-Ok-clause-identity g c =
    let s = streams_of g (goal.at.returns-in-Ok-clause-identity g c).In-Ok in
    IfOk-weaker c.finish.result _ _ (λ run is. is s c.in-Ok.ensures.through ∙ c.in-Ok.ensures.identity) c.finish.ensures.identity

pub returns-in-Ok-clause-fault : goal.returns-in-Ok-clause-fault
returns-in-Ok-clause-fault g c =
    let s = streams_of g (goal.at.returns-in-Ok-clause-fault g c).In-Ok in
    IfErr-weaker c.finish.result _ _ (λ fault broken. subst (λ l. Passes s (Breaks l fault)) c.in-Ok.ensures.limits
    (broken s c.in-Ok.ensures.end c.in-Ok.ensures.through)) c.finish.ensures.fault
