use Rattle.std.proofs.Common.{◌∙◌}
use Rattle.std.proofs.lemmas.Result.{IfErr-weaker, IfOk-weaker}
use Rattle.mf_desk.specs.Streams.{streams}
use Rattle.mf_view.specs.Easels.{manner_of}
use Rattle.mf_view.proofs.Shown.{drawn_beside, in_manner, stop_is_told}
use Rattle.mf_view.proofs.performance.show.Goals as goal

pub end-requires-clause-through : goal.end-requires-clause-through
end-requires-clause-through g c = (_, rw c.in-Ok.is at c.perform_beside-drawn.ensures.through)

pub returns-in-Ok-clause-shown : goal.returns-in-Ok-clause-shown
returns-in-Ok-clause-shown g c =
    let at_end = rw c.in-Ok.is at c.perform_beside-drawn.ensures.end in
    let through = rw c.in-Ok.is at c.perform_beside-drawn.ensures.through in
    let drawn = drawn_beside c.look-first.result c.perform_beside-drawn.result.drawn _ _ c.perform_beside-drawn.new.easel _ _ _
    c.requires.blank c.look-first.ensures.drawn c.perform_beside-drawn.ensures.drawn in
    let s = streams (g.R.Read.remaining c.args.reader.now) (g.R.Read.remaining c.perform_beside-drawn.new.reader)
    (g.T.Write.contents c.args.transcript.now) (g.T.Write.contents c.perform_beside-drawn.new.transcript) in
    IfOk-weaker c.end.result _ _ (λ outcome shows.
    in_manner c.args.settings.now _ (manner_of c.args.easel) _ outcome s (c.perform_beside-drawn.ensures.manner ∙ c.look-first.ensures.manner)
    (shows (g.W.Write.contents c.args.screen.now) s at_end through drawn))
    c.end.ensures.shown

pub returns-in-Ok-clause-fault : goal.returns-in-Ok-clause-fault
returns-in-Ok-clause-fault g c =
    let at_end = rw c.in-Ok.is at c.perform_beside-drawn.ensures.end in
    let through = rw c.in-Ok.is at c.perform_beside-drawn.ensures.through in
    IfErr-weaker c.end.result _ _ (λ fault tells. tells _ at_end through) c.end.ensures.fault

pub returns-clause-fault : goal.returns-clause-fault
returns-clause-fault g c =
    let stopped = rw c.requires.limits at (rw c.in-Err.is at c.perform_beside-drawn.ensures.stopped) in
    rw c.into.ensures (stop_is_told _ _ c.in-Err.stopped stopped)
