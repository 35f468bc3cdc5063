use Rattle.std.proofs.Common.{◌+◌, ◌∷◌, ◌++◌, [], ◌∙◌, ap, arith, length, length-append, subst}
use Rattle.std.proofs.lemmas.List.Elements.{All-push, All-same}
use Rattle.mf_live.specs.Desks.{desk_identity}
use Rattle.mf_desk_watch.specs.Watchers.{IsWatcher}
use Rattle.mf_desk_watch.proofs.watching.watchers.Goals as goal

pub loop-preserved : goal.loop-preserved
loop-preserved c =
    let (same_desk, places, counted, ready) = c.loop.invariant in
    let old = c.loop.watchers.items in
    let watcher = c.in_ok-new.field-0 in
    let room = c.args.looks + 1 in
    let Ready = IsWatcher (desk_identity c.args.desk) 0 room in
    let this_ready : Ready watcher =
    subst (λ picture. IsWatcher picture 0 room watcher) (c.in_ok-viewer.ensures.viewer_identity ∙ same_desk) c.in_ok-new.ensures in
    let pushed = c.in_ok-push.ensures.items in (
      c.viewer.ensures.identity ∙ same_desk,
      omega (arith, places, c.in_ok-viewer.ensures.remaining),
      ap length pushed ∙ omega (arith, counted, length-append old (watcher ∷ [])),
      All-same Ready c.push.new.self.items (old ++ watcher ∷ []) pushed (All-push Ready old watcher ready this_ready),
    )
